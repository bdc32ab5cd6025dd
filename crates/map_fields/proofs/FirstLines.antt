-- Line 1, field by field. Assumes nothing.
use mathlib.Core.Path.{◌≡◌, refl, sym, ap, ◌∙◌}
use mathlib.Core.Bool.{Bool, true, false, ◌||◌, ◌&&◌}
use mathlib.Core.List.{List, [], ◌∷◌}
use Prim.Native.Nat.{ℕ, suc, ◌+◌, ◌≤◌, ◌<◌}
use native.Mathlib.Numerals.{add-one}
use native.Mathlib.Omega.{arith}
use lib.Dec.{eqb}
use lib.ListN.{length, take, drop, set, get_or}
use lib.Seq.{sets, sets-eq, take_at}
use borrow.Author.Tests.{eq-eqb, ne_eqb}
use Rattle.std.specs.Prelude.{Some, None}
use Rattle.std.proofs.Math.Bool.{and-false}
use Rattle.map_fields.specs.Head.{decimal_in, are_decimals, decimals_of, is_byte, are_counted, lengths_in, head_in, Kept, HeadRead}
use Rattle.map_fields.specs.declared.head.FirstLine.{FirstLine}

-- ---- one byte

module _ (yes no : ℕ) where
  pub either-short : (text : List ℕ) → length text < 1 → is_byte yes text || is_byte no text ≡ false
  unfolding is_byte
  either-short [] l = refl
  either-short (x ∷ xs) l = absurd (let q : ⊥ = omega arith in q)

  pub either-long : (text : List ℕ) → 2 ≤ length text → is_byte yes text || is_byte no text ≡ false
  unfolding is_byte
  either-long [] l = refl
  either-long (x ∷ []) l = absurd (let q : ⊥ = omega arith in q)
  either-long (x ∷ y ∷ ys) l = refl

  byte-is : (b : ℕ) (text : List ℕ) → 1 ≤ length text → length text < 2 → is_byte b text ≡ eqb (get_or text 0 0) b
  unfolding is_byte
  byte-is b [] l m = absurd (let q : ⊥ = omega arith in q)
  byte-is b (x ∷ []) l m = refl
  byte-is b (x ∷ y ∷ ys) l m = absurd (let q : ⊥ = omega arith in q)

  module _ (text : List ℕ) (l : 1 ≤ length text) (m : length text < 2) where
    pub either-yes : get_or text 0 0 ≡ yes → (is_byte yes text || is_byte no text ≡ true) × (true ≡ is_byte yes text)
    either-yes e = rw (byte-is yes text l m, eq-eqb _ _ e) (refl, refl)

    pub either-no : (get_or text 0 0 ≡ yes → ⊥) → get_or text 0 0 ≡ no → (is_byte yes text || is_byte no text ≡ true) × (false ≡ is_byte yes text)
    either-no n e = rw (byte-is yes text l m, byte-is no text l m, ne_eqb _ _ n, eq-eqb _ _ e) (refl, refl)

    pub either-other : (get_or text 0 0 ≡ yes → ⊥) → (get_or text 0 0 ≡ no → ⊥) → is_byte yes text || is_byte no text ≡ false
    either-other n e = rw (byte-is yes text l m, byte-is no text l m, ne_eqb _ _ n, ne_eqb _ _ e)

-- ---- the axis count and the lengths

pub count-none : (all rest : List (List ℕ)) → (all ≡ []) × (rest ≡ []) → are_counted all ≡ false
unfolding are_counted
count-none all rest e = rw e.0

pub count-bad : (all : List (List ℕ)) (c : List ℕ) (ps : List (List ℕ)) → all ≡ c ∷ ps → decimal_in c ≡ None → are_counted all ≡ false
unfolding are_counted are_decimals
count-bad all c ps e d = rw (e, d)

-- k of the fields ps were decimals, kept where there is room, and the fields qs are left
pub record Counting (ps qs : List (List ℕ)) (old new : List ℕ) (k : ℕ) : Type 0 where
  pub read : are_decimals ps ≡ are_decimals qs
  pub size : length ps ≡ k + length qs
  pub kept : sets old 0 (decimals_of ps) ≡ sets new k (decimals_of qs)

pub Counting-start : (ps : List (List ℕ)) (old : List ℕ) → Counting ps ps old old 0
Counting-start ps old = record { read = refl; size = omega arith; kept = refl }

module _ (all : List (List ℕ)) (c : List ℕ) (ps : List (List ℕ)) (e : all ≡ c ∷ ps) (n : ℕ) (d : decimal_in c ≡ Some n) where
  counted : are_counted all ≡ are_decimals ps && eqb (length ps) n
  unfolding are_counted are_decimals
  counted = rw (e, d)

  miscounted : (length ps ≡ n → ⊥) → are_counted all ≡ false
  miscounted u = counted ∙ ap (λ (b : Bool). are_decimals ps && b) (ne_eqb _ _ u) ∙ and-false (are_decimals ps)

  module _ (qs : List (List ℕ)) (old new : List ℕ) (k : ℕ) (h : Counting ps qs old new k) where
    pub Counting-short : k < n → qs ≡ [] → are_counted all ≡ false
    Counting-short l f = let m : length qs ≡ 0 = ap length f in miscounted (λ u. let q : ⊥ = omega (arith, h.size) in q)

    pub Counting-over : k ≤ n → n ≤ k → (p : List ℕ) (rs : List (List ℕ)) → qs ≡ p ∷ rs → are_counted all ≡ false
    Counting-over l m p rs f = let s : length qs ≡ suc (length rs) = ap length f in miscounted (λ u. let q : ⊥ = omega (arith, h.size) in q)

    module _ (p : List ℕ) (rs : List (List ℕ)) (f : qs ≡ p ∷ rs) where
      pub Counting-bad : decimal_in p ≡ None → are_counted all ≡ false
      unfolding are_decimals
      Counting-bad g = let no : are_decimals ps ≡ false = h.read ∙ rw (f, g) in counted ∙ ap (λ (b : Bool). b && eqb (length ps) n) no

      pub Counting-step : (v : ℕ) (next : List ℕ) → decimal_in p ≡ Some v → next ≡ set new k v → Counting ps rs old next (k + 1)
      unfolding are_decimals decimals_of
      Counting-step v next g b = record {
        read = h.read ∙ rw (f, g);
        size = h.size ∙ rw f (omega arith);
        kept = h.kept ∙ rw (f, g, b, add-one k);
      }

    pub Counting-done : length old ≡ 4 → k ≤ n → n ≤ k → qs ≡ [] → (are_counted all ≡ true) × Kept (decimals_of (drop 1 all)) n new
    unfolding are_decimals decimals_of
    Counting-done four l m f =
        let z : length qs ≡ 0 = ap length f in
        let many : length ps ≡ n = omega (arith, h.size) in
        let long : length (decimals_of ps) ≡ length ps = go ps in (
          counted ∙ rw (h.read, f, eq-eqb _ _ many),
          rw e (record {
            axes = omega (arith, many, long);
            kept = λ few.
                let room : 0 + length (decimals_of ps) ≤ length old = omega (arith, many, long) in
                ap (λ (xs : List ℕ). take n xs) (sym (h.kept ∙ rw f) ∙ sets-eq (decimals_of ps) old 0 room)
                ∙ take_at (decimals_of ps) (drop (0 + length (decimals_of ps)) old) n (long ∙ many);
          }),
        )
      where
        go : (rs : List (List ℕ)) → length (decimals_of rs) ≡ length rs
        go [] = refl
        go (r ∷ rs) = ap suc (go rs)

-- ---- letter and flag

module _ (all : List (List ℕ)) where
  pub head-none : all ≡ [] → head_in all ≡ None
  unfolding head_in
  head-none e = rw e

  module _ (kind : List ℕ) (ps : List (List ℕ)) (e : all ≡ kind ∷ ps) where
    pub head-kind : is_byte 69 kind || is_byte 82 kind ≡ false → head_in all ≡ None
    unfolding head_in
    head-kind k = ap head_in e ∙ go ps
      where
        go : (qs : List (List ℕ)) → head_in (kind ∷ qs) ≡ None
        go [] = refl
        go (flag ∷ []) = refl
        go (flag ∷ c ∷ ds) = rw k

    pub head-one : ps ≡ [] → head_in all ≡ None
    unfolding head_in
    head-one f = rw (e, f)

    module _ (flag : List ℕ) (qs : List (List ℕ)) (f : ps ≡ flag ∷ qs) where
      pub head-flag : is_byte 69 kind || is_byte 82 kind ≡ true → is_byte 49 flag || is_byte 48 flag ≡ false → head_in all ≡ None
      unfolding head_in
      head-flag k g = rw (e, f) (go qs)
        where
          go : (rs : List (List ℕ)) → head_in (kind ∷ flag ∷ rs) ≡ None
          go [] = refl
          go (c ∷ ds) = rw (k, g)

      pub head-lengths : is_byte 69 kind || is_byte 82 kind ≡ true → is_byte 49 flag || is_byte 48 flag ≡ true → are_counted qs ≡ false → head_in all ≡ None
      unfolding head_in are_counted
      head-lengths k g n = rw (e, f) (go qs n)
        where
          go : (rs : List (List ℕ)) → are_counted rs ≡ false → head_in (kind ∷ flag ∷ rs) ≡ None
          go [] m = refl
          go (c ∷ ds) m = rw (k, g, m)

      pub head-read : (line : FirstLine) → is_byte 69 kind || is_byte 82 kind ≡ true → is_byte 49 flag || is_byte 48 flag ≡ true
          → (are_counted qs ≡ true) × Kept (decimals_of (drop 1 qs)) line.count line.dims → line.regular ≡ is_byte 69 kind → line.linear ≡ is_byte 49 flag → HeadRead all line
      unfolding head_in are_counted lengths_in decimals_of
      head-read line k g n r l = rw (e, f) (go qs n)
        where
          go : (rs : List (List ℕ)) → (are_counted rs ≡ true) × Kept (decimals_of (drop 1 rs)) line.count line.dims → HeadRead (kind ∷ flag ∷ rs) line
          go [] m = absurd (let z : ◌≡◌ {A = ℕ} 0 1 = let y = m.0 in cc in let y : ⊥ = omega arith in y)
          go (c ∷ ds) m = record { head = rw (k, g, m.0, r, l); lengths = m.1 }
