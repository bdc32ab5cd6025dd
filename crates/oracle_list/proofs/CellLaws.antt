-- Cells are set and compared one after the other. Assumes nothing.
use mathlib.Core.Path.{◌≡◌, refl, sym, ap, ◌∙◌}
use mathlib.Core.Bool.{Bool, true, false, not, ◌&&◌, and-false}
use mathlib.Core.List.{List, [], ◌∷◌}
use Prim.Native.Nat.{ℕ, zero, suc, ◌+◌, ◌-◌, ◌≤◌, ◌<◌}
use native.Mathlib.Numerals.{add-one}
use native.Mathlib.Omega.{arith}
use lib.ListN.{length, take, drop, set, get_or, length-set, drop_of_length-le}
use lib.Seq.{drop-cons, take-suc, take-suc-set, take_all}
use lib.Ieee.{Float, nan, add, binary64}
use borrow.Author.Tests.{not-true, not-false}
use Rattle.std.specs.List.{list_all, zip}
use Rattle.float_text.specs.Bits.{same_bits}
use Rattle.oracle_list.specs.Cells.{counted, every_pair}

-- ---- cells that count

pub length-counted : (x step : Float) (n : ℕ) → length (counted x step n) ≡ n
unfolding counted
length-counted x step zero = refl
length-counted x step (suc n) = ap suc (length-counted (add binary64 x step) step n)

-- x is the cell after the first i of n
pub record Counting (first step : Float) (n : ℕ) (x : Float) (i : ℕ) : Type 0 where
  pub rest : drop i (counted first step n) ≡ counted x step (n - i)

pub Counting-start : (first step : Float) (n : ℕ) → Counting first step n first 0
Counting-start first step n =
    let q : n - 0 ≡ n = omega arith in
    record { rest = rw q }

module _ (first step : Float) (n : ℕ) (x : Float) (i : ℕ) (h : Counting first step n x i) (l : i < n) where
  counting-parted : get_or (counted first step n) i nan ∷ drop (suc i) (counted first step n) ≡ x ∷ counted (add binary64 x step) step (n - (i + 1))
  unfolding counted
  counting-parted =
      let ahead : n - i ≡ suc (n - (i + 1)) = omega arith in
      let inside : i < length (counted first step n) = rw length-counted l in
      sym (drop-cons (counted first step n) i nan inside) ∙ h.rest ∙ rw ahead

  pub Counting-at : get_or (counted first step n) i nan ≡ x
  Counting-at = let p = counting-parted in cc

  pub Counting-step : Counting first step n (add binary64 x step) (i + 1)
  Counting-step =
      let p = counting-parted in
      let after : drop (suc i) (counted first step n) ≡ counted (add binary64 x step) step (n - (i + 1)) = cc in
      record { rest = ap (λ (k : ℕ). drop k (counted first step n)) (add-one i) ∙ after }

-- ---- cells that are set

-- the first i cells are set, and x is the next
pub record Filling (first step : Float) (old new : List Float) (x : Float) (i : ℕ) : Type 0 where
  pub few : i ≤ length old
  pub size : length new ≡ length old
  pub next : Counting first step (length old) x i
  pub done : take i new ≡ take i (counted first step (length old))

pub Filling-start : (first step : Float) (old : List Float) → Filling first step old old first 0
Filling-start first step old = record { few = omega arith; size = refl; next = Counting-start first step (length old); done = refl }

pub Filling-step : (first step : Float) (old new : List Float) (x : Float) (i : ℕ) → Filling first step old new x i → i < length new
    → Filling first step old (set new i x) (add binary64 x step) (i + 1)
Filling-step first step old new x i h l =
    let all = counted first step (length old) in
    let before : i < length old = omega (arith, h.size) in
    let inside : i < length all = rw length-counted before in
    record {
      few = omega arith;
      size = length-set new i x ∙ h.size;
      next = Counting-step first step (length old) x i h.next before;
      done =
          rw (add-one i)
          (take-suc-set new i x l ∙ rw (h.done, ← Counting-at first step (length old) x i h.next before) (sym (take-suc all i nan inside)));
    }

pub Filling-done : (first step : Float) (old new : List Float) (x : Float) (i : ℕ) → Filling first step old new x i → length new ≤ i
    → new ≡ counted first step (length old)
Filling-done first step old new x i h l =
    sym (take_all i new l) ∙ h.done ∙ take_all i (counted first step (length old)) (rw length-counted (omega (arith, h.size)))

-- ---- two lists, by a test

-- the lists are as long, and each of their pairs passes
pub every_pair-zip : (test : Float → Float → Bool) (xs ys : List Float) → length xs ≡ length ys
    → every_pair test xs ys ≡ list_all (λ (p : Float × Float). test p.0 p.1) (zip xs ys)
unfolding every_pair
every_pair-zip test [] [] e = refl
every_pair-zip test [] (y ∷ ys) e = absurd (omega arith)
every_pair-zip test (x ∷ xs) [] e = absurd (omega arith)
every_pair-zip test (x ∷ xs) (y ∷ ys) e = ap (λ (b : Bool). test x y && b) (every_pair-zip test xs ys (omega arith))

pub every_pair-length : (test : Float → Float → Bool) (xs ys : List Float) → (length xs ≡ length ys → ⊥) → every_pair test xs ys ≡ false
unfolding every_pair
every_pair-length test [] [] n = absurd (n refl)
every_pair-length test [] (y ∷ ys) n = refl
every_pair-length test (x ∷ xs) [] n = refl
every_pair-length test (x ∷ xs) (y ∷ ys) n = rw (every_pair-length test xs ys (λ e. n (ap suc e))) (and-false (test x y))

-- ---- cells that still count

pub record Filled (first step : Float) (cells : List Float) (x : Float) (i : ℕ) : Type 0 where
  pub few : i ≤ length cells
  pub rest : every_pair same_bits cells (counted first step (length cells)) ≡ every_pair same_bits (drop i cells) (counted x step (length cells - i))

pub Filled-start : (first step : Float) (cells : List Float) → Filled first step cells first 0
Filled-start first step cells =
    let q : length cells - 0 ≡ length cells = omega arith in
    record { few = omega arith; rest = rw q }

module _ (first step : Float) (cells : List Float) (x : Float) (i : ℕ) (h : Filled first step cells x i) (l : i < length cells) (r : Bool) (t : r ≡ same_bits (get_or cells i nan) x) where
  filled-parted : every_pair same_bits cells (counted first step (length cells))
      ≡ (r && every_pair same_bits (drop (suc i) cells) (counted (add binary64 x step) step (length cells - (i + 1))))
  unfolding every_pair counted
  filled-parted =
      let ahead : length cells - i ≡ suc (length cells - (i + 1)) = omega arith in
      h.rest ∙ rw (drop-cons cells i nan l, ahead, t)

  pub Filled-step : not r ≡ false → Filled first step cells (add binary64 x step) (i + 1)
  Filled-step n = record { few = omega arith; rest = filled-parted ∙ rw (not-false r n, add-one i) }

  pub Filled-bad : not r ≡ true → false ≡ every_pair same_bits cells (counted first step (length cells))
  Filled-bad n = sym (filled-parted ∙ rw (not-true r n))

pub Filled-done : (first step : Float) (cells : List Float) (x : Float) (i : ℕ) → Filled first step cells x i → length cells ≤ i
    → true ≡ every_pair same_bits cells (counted first step (length cells))
unfolding every_pair counted
Filled-done first step cells x i h l =
    let z : length cells - i ≡ 0 = omega arith in
    sym (h.rest ∙ rw (drop_of_length-le cells l, z))
