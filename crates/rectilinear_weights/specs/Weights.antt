-- The four weights of a query on a rectilinear axis, and their slopes, each operation rounded to the format f, in the Rust's
-- order. Assumes nothing.
--     ks          the knots
--     low, high   the ghost numbers of the two ends
--     straight    whether the straight line from the end is taken
use Rattle.std.specs.Prelude.{Bool, cond, List, [], ◌∷◌, ℕ, ◌-◌, length, Float}
use Rattle.std.specs.Float.{Format}
use Rattle.std.specs.Float.Ieee.{sub}
use Rattle.interp_math.specs.Sum.{mul_add}
use Rattle.multibspline.specs.Numbers.{f0}
use Rattle.multibspline.specs.Thomas.{at}
use Rattle.multibspline.specs.Place.{by_place}
use Rattle.multibspline.specs.declared.saturation.Saturation.{Saturation}
use Rattle.rectilinear_basis.specs.Basis.{four, basis_span_weights}
use Rattle.rectilinear_slopes.specs.Slopes.{basis_span_weight_derivatives}

-- ---- the ghost coefficient past an end, folded into the stored ones

unfoldable pub fold_low : Format → List Float → List Float → List Float
fold_low f ghost raw =
    mul_add f (at raw 0) (at ghost 0) (at raw 1)
    ∷ mul_add f (at raw 0) (at ghost 1) (at raw 2)
    ∷ mul_add f (at raw 0) (at ghost 2) (at raw 3)
    ∷ f0
    ∷ []

unfoldable pub fold_high : Format → List Float → List Float → List Float
fold_high f ghost raw =
    f0
    ∷ mul_add f (at raw 3) (at ghost 0) (at raw 0)
    ∷ mul_add f (at raw 3) (at ghost 1) (at raw 1)
    ∷ mul_add f (at raw 3) (at ghost 2) (at raw 2)
    ∷ []

-- ---- the straight line from an end: the weights there and, times the distance, their slopes

unfoldable pub linearized_boundary_weights : Format → List Float → ℕ → Float → Float → List Float
linearized_boundary_weights f ks span end x =
    let dx = sub f x end in
    four (λ j. mul_add f dx (at (basis_span_weight_derivatives f ks span end) j) (at (basis_span_weights f ks span end) j))

-- ---- the two ends: the first span from its first knot, the last span from its last knot

module _ (f : Format) (ks ghost : List Float) (straight : Bool) (x : Float) where
  abbrev pub low_boundary_weights : List Float
  low_boundary_weights = fold_low f ghost (cond straight (linearized_boundary_weights f ks 0 (at ks 0) x) (basis_span_weights f ks 0 x))

  abbrev pub high_boundary_weights : List Float
  high_boundary_weights =
      let n = length ks in
      fold_high f ghost (cond straight (linearized_boundary_weights f ks (n - 2) (at ks (n - 1)) x) (basis_span_weights f ks (n - 2) x))

  -- a straight line has the slope at the end
  abbrev pub low_boundary_weight_derivatives : List Float
  low_boundary_weight_derivatives = fold_low f ghost (basis_span_weight_derivatives f ks 0 (cond straight (at ks 0) x))

  abbrev pub high_boundary_weight_derivatives : List Float
  high_boundary_weight_derivatives =
      let n = length ks in
      fold_high f ghost (basis_span_weight_derivatives f ks (n - 2) (cond straight (at ks (n - 1)) x))

-- ---- by the place of the query and the axis's flag

module _ (f : Format) (ks low high : List Float) (linear : Bool) (span : ℕ) (x : Float) where
  unfoldable pub interp_weights : Saturation → List Float
  interp_weights sat =
      by_place linear (basis_span_weights f ks span x) (λ straight. low_boundary_weights f ks low straight x) (λ straight. high_boundary_weights f ks high straight x) sat

  unfoldable pub interp_weight_derivatives : Saturation → List Float
  interp_weight_derivatives sat =
      by_place linear (basis_span_weight_derivatives f ks span x) (λ straight. low_boundary_weight_derivatives f ks low straight x)
      (λ straight. high_boundary_weight_derivatives f ks high straight x) sat
