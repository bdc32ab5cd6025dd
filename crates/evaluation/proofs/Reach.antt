-- How far the coefficients that count reach, whatever origins the axes give. Assumes nothing.
use mathlib.Core.Path.{◌≡◌, refl}
use mathlib.Core.List.{List}
use Prim.Native.Nat.{ℕ, zero, suc, ◌+◌, ◌*◌, ◌≤◌, ◌<◌}
use native.Mathlib.Nat.{mul-le-mul_right}
use native.Mathlib.Omega.{arith}
use native.Mathlib.Numerals.{add-one}
use lib.ListN.{length, get_or, take, drop}
use Rattle.shape.specs.Shape.{product, size, points, stride}
use Rattle.shape.specs.Below.{sum_below}
use Rattle.shape.specs.Checks.{most_points}
use Rattle.shape.specs.Usable.{Usable}
use Rattle.shape.proofs.Lengths.{product-end}
use Rattle.shape.proofs.BaseIndex.{from-axis}
use Rattle.shape.proofs.Accepted.{points-are, axes-are}
use Rattle.evaluation.specs.Axes.{first_over}
use Rattle.evaluation.specs.Granted.{Reaches, Below}

-- ---- the first of the coefficients that count, axis by axis

module _ (dims : List ℕ) (origin : ℕ → ℕ) where
  pub first-none : first_over dims origin 0 ≡ 0
  unfolding first_over sum_below
  first-none = refl

  pub first_next : (a : ℕ) {i o s : ℕ} → i ≡ first_over dims origin a → o ≡ origin a → s ≡ stride dims a → i + o * s ≡ first_over dims origin (a + 1)
  unfolding first_over sum_below
  first_next a ei eo es = rw (add-one a, ei, eo, es) (omega arith)

-- ---- it stays within the map

module _ (count : ℕ) (lens : List ℕ) (four : length lens ≡ 4) (u : Usable count lens) where
  pub below-start : Below count lens 0 0
  unfolding sum_below
  below-start = omega arith

  -- one axis more: an origin that leaves room for four points
  pub below_next : (a i origin : ℕ) → a < count → Below count lens a i → origin + 3 < get_or lens a 0 → Below count lens (a + 1) (i + origin * stride (take count lens) a)
  unfolding sum_below
  below_next a i origin h below room =
      let dims = take count lens in
      let cells : product (drop a dims) ≡ points dims a * stride dims a = from-axis dims a (rw (axes-are count lens four u) h) in
      let en : points dims a ≡ get_or lens a 0 = points-are count lens four u a h in
      let more : suc (origin + 3) * stride dims a ≤ points dims a * stride dims a = mul-le-mul_right (stride dims a) (rw en room) in
      rw (add-one a) (omega (arith, below, cells, more))

  -- origins that leave room for four points on each axis
  pub first_below : (origin : ℕ → ℕ) (n : ℕ) → n ≤ count → ((a : ℕ) → a < n → origin a + 3 < get_or lens a 0) → Below count lens n (first_over (take count lens) origin n)
  first_below origin zero h room = rw (first-none (take count lens) origin) below-start
  first_below origin (suc a) h room =
      let next = below_next a (first_over (take count lens) origin a) (origin a) (omega arith) (first_below origin a (omega arith) (λ b k. room b (omega arith))) (room a (omega arith)) in
      rw add-one at (rw (first_next (take count lens) origin a refl refl refl) at next)

  -- the sum so far is a number that the code can work out
  pub below-small : (a i : ℕ) → Below count lens a i → i ≤ most_points
  below-small a i below = omega (arith, below, u.few-points)

  -- once all axes are done
  pub below-reaches : (i coefs : ℕ) → Below count lens count i → coefs ≡ size (take count lens) → Reaches count lens i coefs
  below-reaches i coefs below e =
      let cells = product-end lens count count (omega (arith, u.at-most-four)) (omega arith) in
      record { within = rw e (omega (arith, below, cells)) }
