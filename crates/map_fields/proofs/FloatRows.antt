-- A line of floats, one field after the other. Assumes nothing.
use mathlib.Core.Path.{◌≡◌, refl, ap, ◌∙◌}
use mathlib.Core.Bool.{Bool, true, false, cond}
use mathlib.Core.List.{List, [], ◌∷◌, ◌++◌, append_assoc, append-nil}
use Prim.Native.Nat.{ℕ, zero, suc, ◌+◌, ◌*◌, ◌-◌, ◌≤◌, ◌<◌}
use native.Mathlib.Numerals.{add-one}
use native.Mathlib.Omega.{arith}
use lib.Dec.{eqb}
use lib.ListN.{length, take, set, length-set}
use lib.Seq.{take_all, take-suc-set}
use lib.Ieee.{Float}
use borrow.Author.Tests.{eqb-true}
use Rattle.std.specs.Prelude.{Option, Some, None, option_map}
use Rattle.std.specs.Float.{binary64}
use Rattle.std.specs.Float.Ieee.{of_bits}
use Rattle.float_text.specs.Digits.{number_from}
use Rattle.float_text.specs.Bits.{bits_in, float_in}
use Rattle.map_fields.specs.Fields.{onto, lines, fields, joined, floats_in, row_in, rest, room_of}

abbrev after : List Float → Option (List Float) → Option (List Float)
after xs None = None
after xs (Some ys) = Some (xs ++ ys)

-- k of the n floats of the fields ps are in the buffer, and the fields qs are left
pub record Floating (n : ℕ) (ps : List (List ℕ)) (buf : List Float) (k : ℕ) (qs : List (List ℕ)) : Type 0 where
  pub few : k ≤ n
  pub size : length buf ≡ n
  pub rest : floats_in n ps ≡ after (take k buf) (floats_in (n - k) qs)

module _ (n : ℕ) (ps : List (List ℕ)) (buf : List Float) (k : ℕ) (qs : List (List ℕ)) (h : Floating n ps buf k qs) (l : k < n) where
  ahead : n - k ≡ suc (n - (k + 1))
  ahead = omega arith

  -- no field is left
  pub Floating-short : qs ≡ [] → floats_in n ps ≡ None
  unfolding floats_in
  Floating-short e = h.rest ∙ rw (e, ahead)

  module _ (p : List ℕ) (rs : List (List ℕ)) (e : qs ≡ p ∷ rs) where
    turn : floats_in n ps ≡ after (take k buf) (joined (float_in p) (floats_in (n - (k + 1)) rs))
    unfolding floats_in
    turn = h.rest ∙ rw (e, ahead)

    -- the next field is no float
    pub Floating-bad : float_in p ≡ None → floats_in n ps ≡ None
    Floating-bad f = turn ∙ ap (λ (o : Option Float). after (take k buf) (joined o (floats_in (n - (k + 1)) rs))) f

    pub Floating-step : (x : Float) → float_in p ≡ Some x → Floating n ps (set buf k x) (k + 1) rs
    Floating-step x f = record {
      few = omega arith;
      size = length-set buf k x ∙ h.size;
      rest = turn ∙ ap (λ (o : Option Float). after (take k buf) (joined o (floats_in (n - (k + 1)) rs))) f ∙ go (floats_in (n - (k + 1)) rs);
    }
      where
        go : (o : Option (List Float)) → after (take k buf) (joined (Some x) o) ≡ after (take (k + 1) (set buf k x)) o
        go None = refl
        go (Some ys) = ap Some (rw (add-one k, take-suc-set buf k x (omega (arith, h.size)), append_assoc))

module _ (n : ℕ) (ps : List (List ℕ)) (buf : List Float) (k : ℕ) (qs : List (List ℕ)) (h : Floating n ps buf k qs) (l : n ≤ k) where
  done : n - k ≡ 0
  done = omega arith

  -- all floats are read, and fields are left, or none
  pub Floating-over : (p : List ℕ) (rs : List (List ℕ)) → qs ≡ p ∷ rs → floats_in n ps ≡ None
  unfolding floats_in
  Floating-over p rs e = h.rest ∙ rw (done, e)

  pub Floating-done : qs ≡ [] → floats_in n ps ≡ Some buf
  unfolding floats_in
  Floating-done e = h.rest ∙ rw (done, e) (ap Some (append-nil (take k buf) ∙ take_all k buf (omega (arith, h.size))))

-- ---- the next line, read

pub row-none : (n : ℕ) (ls ms : List (List ℕ)) → (ls ≡ []) × (ms ≡ []) → (row_in n ls ≡ None) × (ms ≡ rest ls)
unfolding row_in rest
row-none n ls ms e = (rw e.0, rw (e.0, e.1))

pub row-one : (n : ℕ) (ls ms : List (List ℕ)) (l : List ℕ) (o : Option (List Float)) → ls ≡ l ∷ ms → floats_in n (fields l) ≡ o → (row_in n ls ≡ o) × (ms ≡ rest ls)
unfolding row_in rest
row-one n ls ms l o e f = (rw e f, rw e)

-- ---- how much room a line of floats takes

float-long : (p : List ℕ) (x : Float) → float_in p ≡ Some x → length p ≡ 16
unfolding float_in bits_in
float-long p x e = go (eqb (length p) 16) refl e
  where
    go : (t : Bool) → eqb (length p) 16 ≡ t → option_map (of_bits binary64) (cond t (number_from 16 0 p) None) ≡ Some x → length p ≡ 16
    go true q e = eqb-true (length p) 16 q
    go false q e = absurd (let z : ◌≡◌ {A = ℕ} 0 1 = cc in let y : ⊥ = omega arith in y)

room-fields : (xs : List ℕ) → room_of (fields xs) ≡ suc (length xs)
unfolding fields room_of
room-fields [] = refl
room-fields (x ∷ xs) = go (eqb x 44) (fields xs) (room-fields xs)
  where
    go : (t : Bool) (l : List (List ℕ)) → room_of l ≡ suc (length xs) → room_of (cond t ([] ∷ l) (onto x l)) ≡ suc (suc (length xs))
    go true l e = omega arith
    go false [] e = omega arith
    go false (p ∷ ps) e = omega arith

floats-long : (n : ℕ) (ps : List (List ℕ)) (xs : List Float) → floats_in n ps ≡ Some xs → 17 * n ≤ room_of ps
unfolding floats_in room_of
floats-long zero [] xs e = omega arith
floats-long zero (p ∷ ps) xs e = omega arith
floats-long (suc n) [] xs e = absurd (let z : ◌≡◌ {A = ℕ} 0 1 = cc in let y : ⊥ = omega arith in y)
floats-long (suc n) (p ∷ ps) xs e = go (float_in p) refl (floats_in n ps) refl e (λ ys f. floats-long n ps ys f)
  where
    go : (v : Option Float) → float_in p ≡ v → (o : Option (List Float)) → floats_in n ps ≡ o → joined v o ≡ Some xs → ((ys : List Float) → floats_in n ps ≡ Some ys → 17 * n ≤ room_of ps) → 17 * suc n ≤ suc (length p) + room_of ps
    go (Some x) q (Some ys) f e ih = omega (arith, float-long p x q, ih ys f)
    go (Some x) q None f e ih = absurd (let z : ◌≡◌ {A = ℕ} 0 1 = cc in let y : ⊥ = omega arith in y)
    go None q o f e ih = absurd (let z : ◌≡◌ {A = ℕ} 0 1 = cc in let y : ⊥ = omega arith in y)

-- a line that is read takes 17 bytes for each float
pub row-long : (n : ℕ) (ls : List (List ℕ)) (xs : List Float) → row_in n ls ≡ Some xs → 17 * n + room_of (rest ls) ≤ room_of ls
unfolding row_in rest room_of
row-long n [] xs e = absurd (let z : ◌≡◌ {A = ℕ} 0 1 = cc in let y : ⊥ = omega arith in y)
row-long n (l ∷ ls) xs e = omega (arith, floats-long n (fields l) xs e, room-fields l)

-- the lines of a text take its room, and a byte more where the last newline is missing
pub room-lines : (xs : List ℕ) → room_of (lines xs) ≤ suc (length xs)
unfolding lines room_of
room-lines [] = omega arith
room-lines (x ∷ xs) = go (eqb x 10) (lines xs) (room-lines xs)
  where
    go : (t : Bool) (l : List (List ℕ)) → room_of l ≤ suc (length xs) → room_of (cond t ([] ∷ l) (onto x l)) ≤ suc (suc (length xs))
    go true l e = omega arith
    go false [] e = omega arith
    go false (p ∷ ps) e = omega arith
