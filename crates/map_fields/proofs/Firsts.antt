-- The first line of a text, and the first field of a line. Assumes nothing.
use mathlib.Core.Path.{◌≡◌, refl, sym, ap, ◌∙◌}
use mathlib.Core.Bool.{Bool, true, false, cond, not}
use mathlib.Core.List.{List, [], ◌∷◌}
use Prim.Native.Nat.{ℕ, suc, ◌+◌, ◌-◌, ◌≤◌, ◌<◌}
use native.Mathlib.Numerals.{add-one}
use native.Mathlib.Omega.{arith}
use lib.Dec.{eqb, ltb}
use lib.ListN.{length, take, drop, length-drop, drop_of_length-le}
use lib.Seq.{take_all}
use borrow.Author.Tests.{ltb-true, ltb-false, eqb-true, eqb-false}
use Rattle.std.specs.Prelude.{◌==◌, Option, Some, None, option_map}
use Rattle.std.proofs.Common.{Bor}
use Rattle.std.specs.List.{position, position_or_len}
use Rattle.map_fields.specs.Fields.{onto, lines, fields, fields_left, before}

-- ---- the first part of a list
pub take-before : (b : ℕ) (xs : List ℕ) → take (length (before b xs)) xs ≡ before b xs
unfolding before
take-before b [] = refl
take-before b (x ∷ xs) = go (eqb x b) (take-before b xs)
  where
    go : (t : Bool) → take (length (before b xs)) xs ≡ before b xs → take (length (cond t [] (x ∷ before b xs))) (x ∷ xs) ≡ cond t [] (x ∷ before b xs)
    go true ih = refl
    go false ih = ap (λ (l : List ℕ). x ∷ l) ih

pub lines_step : (xs : List ℕ) → 0 < length xs → lines xs ≡ before 10 xs ∷ lines (drop (suc (length (before 10 xs))) xs)
unfolding lines before
lines_step [] h = absurd (let q : ⊥ = omega arith in q)
lines_step (x ∷ []) h = go (eqb x 10)
  where
    go : (t : Bool) → cond t ([] ∷ []) (onto x []) ≡ cond t [] (x ∷ []) ∷ lines (drop (suc (length (cond t [] (x ∷ [])))) (x ∷ []))
    go true = refl
    go false = refl
lines_step (x ∷ y ∷ ys) h = go (eqb x 10) (lines_step (y ∷ ys) (omega arith))
  where
    go : (t : Bool) → lines (y ∷ ys) ≡ before 10 (y ∷ ys) ∷ lines (drop (suc (length (before 10 (y ∷ ys)))) (y ∷ ys)) → cond t ([] ∷ lines (y ∷ ys)) (onto x (lines (y ∷ ys))) ≡ cond t [] (x ∷ before 10 (y ∷ ys)) ∷ lines (drop (suc (length (cond t [] (x ∷ before 10 (y ∷ ys))))) (x ∷ y ∷ ys))
    go true ih = refl
    go false ih = ap (onto x) ih

pub fields-step : (xs : List ℕ) → length (before 44 xs) < length xs → fields xs ≡ before 44 xs ∷ fields (drop (suc (length (before 44 xs))) xs)
unfolding fields before
fields-step [] h = absurd (let q : ⊥ = omega arith in q)
fields-step (x ∷ xs) h = go (eqb x 44) h (λ g. fields-step xs g)
  where
    go : (t : Bool) → length (cond t [] (x ∷ before 44 xs)) < suc (length xs) → (length (before 44 xs) < length xs → fields xs ≡ before 44 xs ∷ fields (drop (suc (length (before 44 xs))) xs)) → cond t ([] ∷ fields xs) (onto x (fields xs)) ≡ cond t [] (x ∷ before 44 xs) ∷ fields (drop (suc (length (cond t [] (x ∷ before 44 xs)))) (x ∷ xs))
    go true g ih = refl
    go false g ih = ap (onto x) (ih (omega arith))

pub fields-last : (xs : List ℕ) → length xs ≤ length (before 44 xs) → fields xs ≡ before 44 xs ∷ []
unfolding fields before
fields-last [] h = refl
fields-last (x ∷ xs) h = go (eqb x 44) h (λ g. fields-last xs g)
  where
    go : (t : Bool) → suc (length xs) ≤ length (cond t [] (x ∷ before 44 xs)) → (length xs ≤ length (before 44 xs) → fields xs ≡ before 44 xs ∷ []) → cond t ([] ∷ fields xs) (onto x (fields xs)) ≡ cond t [] (x ∷ before 44 xs) ∷ []
    go true g ih = absurd (let q : ⊥ = omega arith in q)
    go false g ih = ap (onto x) (ih (omega arith))

-- ---- looking for a byte

before-long : (b : ℕ) (xs : List ℕ) → length (before b xs) ≡ position_or_len (λ x. eqb x b) xs
unfolding before
before-long b [] = refl
before-long b (x ∷ xs) = go (eqb x b) (before-long b xs)
  where
    go : (t : Bool) → length (before b xs) ≡ position_or_len (λ y. eqb y b) xs
        → length (cond t [] (x ∷ before b xs)) ≡ cond (not t) (1 + position_or_len (λ y. eqb y b) xs) 0
    go true ih = refl
    go false ih = omega (arith, ih)

module _ (b : ℕ) (s : List ℕ) where
  pub split-none : position (λ x. eqb x b) s ≡ None → before b s ≡ s
  split-none = go (ltb (position_or_len (λ x. eqb x b) s) (length s)) refl
    where
      go : (t : Bool) → ltb (position_or_len (λ x. eqb x b) s) (length s) ≡ t → cond t (Some (position_or_len (λ x. eqb x b) s)) None ≡ None → before b s ≡ s
      go true l e = absurd (let z : ◌≡◌ {A = ℕ} 0 1 = cc in let y : ⊥ = omega arith in y)
      go false l e = sym (take-before b s) ∙ take_all (length (before b s)) s (omega (arith, before-long b s, ltb-false _ _ l))

  pub split-some : (i : ℕ) → position (λ x. eqb x b) s ≡ Some i
      → (take i s ≡ before b s) × (take (length s - (i + 1)) (drop (i + 1) s) ≡ drop (suc (length (before b s))) s) × (length (before b s) < length s)
  split-some i = go (ltb (position_or_len (λ x. eqb x b) s) (length s)) refl
    where
      go : (t : Bool) → ltb (position_or_len (λ x. eqb x b) s) (length s) ≡ t → cond t (Some (position_or_len (λ x. eqb x b) s)) None ≡ Some i
          → (take i s ≡ before b s) × (take (length s - (i + 1)) (drop (i + 1) s) ≡ drop (suc (length (before b s))) s) × (length (before b s) < length s)
      go true l e =
          let q : position_or_len (λ x. eqb x b) s ≡ i = cc in
          let n : length (before b s) ≡ i = before-long b s ∙ q in (
            ap (λ (k : ℕ). take k s) (sym n) ∙ take-before b s,
            take_all (length s - (i + 1)) (drop (i + 1) s) (rw length-drop (omega arith)) ∙ ap (λ (k : ℕ). drop k s) (add-one i ∙ ap suc (sym n)),
            omega (arith, n, q, ltb-true _ _ l),
          )
      go false l e = absurd (let z : ◌≡◌ {A = ℕ} 0 1 = cc in let y : ⊥ = omega arith in y)

-- ---- the next line, and the next field

pub line-none : (s : List ℕ) → true ≡ (length s == 0) → lines s ≡ []
unfolding lines
line-none [] e = refl
line-none (x ∷ xs) e = let l = eqb-true (suc (length xs)) 0 (sym e) in absurd (let q : ⊥ = omega arith in q)

pub line-there : (s : List ℕ) → false ≡ (length s == 0) → 0 < length s
line-there s e = let n = eqb-false (length s) 0 (sym e) in go s n
  where
    go : (xs : List ℕ) → (length xs ≡ 0 → ⊥) → 0 < length xs
    go [] n = absurd (n refl)
    go (x ∷ xs) n = omega arith

pub line-next : (s a r : List ℕ) → 0 < length s → a ≡ before 10 s → r ≡ drop (suc (length (before 10 s))) s → lines s ≡ a ∷ lines r
line-next s a r l e f = rw (e, f) (lines_step s l)

pub field-next : (s a r : List ℕ) → a ≡ before 44 s → r ≡ drop (suc (length (before 44 s))) s → length (before 44 s) < length s → fields s ≡ a ∷ fields r
field-next s a r e f l = rw (e, f) (fields-step s l)

pub line-last : (s : List ℕ) → 0 < length s → before 10 s ≡ s → lines s ≡ s ∷ []
unfolding lines
line-last s l e =
    lines_step s l
    ∙ ap (λ (p : List ℕ). p ∷ lines (drop (suc (length (before 10 s))) s)) e
    ∙ ap (λ (r : List ℕ). s ∷ lines r) (let n : length (before 10 s) ≡ length s = ap length e in let m : length s ≤ suc (length (before 10 s)) = omega arith in drop_of_length-le s m)

pub field-last : (s : List ℕ) → before 44 s ≡ s → fields s ≡ s ∷ []
field-last s e = fields-last s (let n : length (before 44 s) ≡ length s = ap length e in omega arith) ∙ ap (λ (p : List ℕ). p ∷ []) e

-- one part is gone
pub fewer : {xs ys : List (List ℕ)} {x : List ℕ} → xs ≡ x ∷ ys → length ys < length xs
fewer {xs} {ys} {x} e = let n : length xs ≡ suc (length ys) = ap length e in omega arith

-- what is left of a line that is there
pub left-some : (rest : Option (Bor (List ℕ))) (line : Bor (List ℕ)) → rest ≡ Some line → fields_left (option_map (λ r. r.now) rest) ≡ fields line.now
left-some rest line e = ap (λ (o : Option (Bor (List ℕ))). fields_left (option_map (λ r. r.now) o)) e
