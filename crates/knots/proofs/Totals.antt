-- Laws of the joined grid: where the knots of an axis are in it, how many there are, and that they rise where all do.
-- Assumes nothing.
use mathlib.Core.Path.{◌≡◌, refl, sym, ap, ◌∙◌}
use mathlib.Core.Logic.{inl, inr}
use mathlib.Core.Bool.{Bool, true, false, ◌&&◌}
use mathlib.Core.List.{List, [], ◌∷◌}
use Prim.Native.Nat.{ℕ, zero, suc, ◌+◌, ◌-◌, ◌*◌, ◌≤◌, ◌<◌}
use native.Mathlib.Nat.{eq-or-lt_of_le, mul-le-mul_left, mul-le-mul_right}
use native.Mathlib.Numerals.{add-one}
use native.Mathlib.Omega.{arith}
use lib.ListN.{length, get_or, take, drop, length-drop, drop_of_length-le}
use lib.Seq.{drop-cons, length-take-le, take-take}
use lib.Ieee.{Float}
use Rattle.std.specs.List.{list_all, range_with_len}
use Rattle.std.proofs.Math.Bool.{and-true, and_assoc}
use Rattle.shape.specs.Shape.{product, size, points}
use Rattle.shape.specs.Checks.{most_points}
use Rattle.shape.specs.Usable.{Usable}
use Rattle.shape.proofs.Below.{and_both}
use Rattle.shape.proofs.Accepted.{axes-are, points-are}
use Rattle.knots.specs.Knots.{rises}
use Rattle.knots.specs.Joined.{total, knots_of, all_rise}

-- ---- the lengths from i on: one more, and none

module _ (lens : List ℕ) (i : ℕ) where
  pub total-at : i < length lens → total (drop i lens) ≡ get_or lens i 0 + total (drop (i + 1) lens)
  unfolding total
  total-at h = ap total (drop-cons lens i 0 h) ∙ rw add-one

  pub total-past : length lens ≤ i → total (drop i lens) ≡ 0
  unfolding total
  total-past h = ap total (drop_of_length-le lens {i = i} h)

-- ---- the knots of axis a

-- are within the grid
pub axis-within : (dims : List ℕ) (a : ℕ) → a < length dims → total (take a dims) + points dims a ≤ total dims
unfolding total
axis-within [] a h = absurd (let q : ⊥ = omega arith in q)
axis-within (n ∷ ns) zero h = omega arith
axis-within (n ∷ ns) (suc a) h = omega (arith, axis-within ns a (omega arith))

-- are as many as the axis has points
pub length-knots_of : (grid : List Float) (dims : List ℕ) (a : ℕ) → a < length dims → length grid ≡ total dims → length (knots_of grid dims a) ≡ points dims a
unfolding knots_of
length-knots_of grid dims a h e =
    length-take-le (points dims a) (drop (total (take a dims)) grid) (rw (length-drop (total (take a dims)) grid) (omega (arith, axis-within dims a h)))

-- a map has at least as many points as knots
pub total-le-size : (dims : List ℕ) → ((a : ℕ) → a < length dims → 4 ≤ points dims a) → total dims ≤ size dims
unfolding total product
total-le-size [] h = omega arith
total-le-size (n ∷ []) h = omega arith
total-le-size (n ∷ m ∷ ns) h =
    let less = total-le-size (m ∷ ns) (λ a k. h (suc a) (omega arith)) in
    let p : ℕ = m * product ns in
    let hn : 4 ≤ n = h 0 (omega arith) in
    let hm : 4 ≤ m = h 1 (omega arith) in
    let hp : 4 ≤ p = omega arith in
    omega (arith, mul-le-mul_right p hn, mul-le-mul_left n hp)

-- ---- by the numbers that the code works out

module _ (count : ℕ) (lens : List ℕ) (four : length lens ≡ 4) (u : Usable count lens) where
  long : (a : ℕ) → a < length (take count lens) → 4 ≤ points (take count lens) a
  long a h =
      let h' : a < count = rw (axes-are count lens four u) at h in
      rw (points-are count lens four u a h') (u.four-points a h')

  pub grid-small : total (take count lens) ≤ most_points
  grid-small = omega (arith, total-le-size (take count lens) long, u.few-points)

  module _ (a : ℕ) (ha : a < count) where
    offset-is : total (take a (take count lens)) ≡ total (take a lens)
    offset-is = ap total (take-take a count lens (omega arith))

    pub part-within : total (take a lens) + get_or lens a 0 ≤ total (take count lens)
    part-within =
        rw (offset-is, points-are count lens four u a ha) at (axis-within (take count lens) a (rw (axes-are count lens four u) ha))

    pub part-is : {from : ℕ} (grid : List Float) → from ≡ total (take a lens) → take (from + get_or lens a 0 - from) (drop from grid) ≡ knots_of grid (take count lens) a
    unfolding knots_of
    part-is {from} grid e =
        let n : from + get_or lens a 0 - from ≡ get_or lens a 0 = omega arith in
        rw (n, e, offset-is, points-are count lens four u a ha)

    -- the part has as many knots as the axis has points, four or more
    pub part_length : (grid : List Float) → length grid ≡ total (take count lens) → length (knots_of grid (take count lens) a) ≡ get_or lens a 0
    part_length grid e =
        length-knots_of grid (take count lens) a (rw (axes-are count lens four u) ha) e ∙ points-are count lens four u a ha

    pub part-long : (grid : List Float) → length grid ≡ total (take count lens) → 4 ≤ length (knots_of grid (take count lens) a)
    part-long grid e = rw (part_length grid e) (u.four-points a ha)

-- ---- all axes rise exactly where each does

module _ (grid : List Float) (dims : List ℕ) where
  pub axis-rises : (k : ℕ) → all_rise grid dims k ≡ true → (a : ℕ) → a < k → rises (knots_of grid dims a) ≡ true
  unfolding all_rise
  axis-rises zero e a h = absurd (let q : ⊥ = omega arith in q)
  axis-rises (suc k) e a h =
      let p = and_both (all_rise grid dims k) (rises (knots_of grid dims k)) e in
      elim (eq-or-lt_of_le (let q : a ≤ k = omega arith in q)) [
        | inl q ↦ rw q p.1
        | inr q ↦ axis-rises k p.0 a q
      ]

  pub all-rise : (k : ℕ) → ((a : ℕ) → a < k → rises (knots_of grid dims a) ≡ true) → all_rise grid dims k ≡ true
  unfolding all_rise
  all-rise zero h = refl
  all-rise (suc k) h = rw (all-rise k (λ a l. h a (omega arith)), h k (omega arith))

  -- one that does not is enough to refuse
  pub not-all-rise : (k a : ℕ) → a < k → rises (knots_of grid dims a) ≡ false → all_rise grid dims k ≡ false
  not-all-rise k a h e = go (all_rise grid dims k) refl
    where
      go : (t : Bool) → all_rise grid dims k ≡ t → t ≡ false
      go false q = refl
      go true q = sym (axis-rises k q a h) ∙ e

  -- from axis a on, one after the other
  rises-from : (a k : ℕ) → all_rise grid dims (a + k) ≡ (all_rise grid dims a && list_all (λ (i : ℕ). rises (knots_of grid dims i)) (range_with_len a k))
  unfolding all_rise
  rises-from a zero = let e : a + 0 ≡ a = omega arith in rw e (sym (and-true (all_rise grid dims a)))
  rises-from a (suc k) =
      let e : a + suc k ≡ a + 1 + k = omega arith in
      let rest : Bool = list_all (λ (i : ℕ). rises (knots_of grid dims i)) (range_with_len (a + 1) k) in
      rw e (rises-from (a + 1) k ∙ ap (λ (m : ℕ). all_rise grid dims m && rest) (add-one a) ∙ and_assoc (all_rise grid dims a) (rises (knots_of grid dims a)) rest)

  pub rises-by-axes : (n : ℕ) → list_all (λ (i : ℕ). rises (knots_of grid dims i)) (range_with_len 0 n) ≡ all_rise grid dims n
  unfolding all_rise
  rises-by-axes n = let e : 0 + n ≡ n = omega arith in sym (rw e at (rises-from 0 n))
