-- One regular axis: n points, the first at `start`, `step` apart. Each operation rounded to the format f. Assumes nothing.
--     linear    whether the map goes on in a straight line outside its grid
--     x         a coordinate
use Rattle.std.specs.Prelude.{◌≡◌, Bool, Option, Some, None, is_none, List, ℕ, Float}
use Rattle.std.specs.Float.{Format}
use Rattle.multibspline.specs.declared.saturation.Saturation.{Saturation}
use Rattle.regular_weights.specs.Place.{at, get_loc, past_origin}
use Rattle.regular_weights.specs.Weights.{interp_weights, interp_weight_derivatives}
use Rattle.regular_weights.specs.declared.place.Loc.{Loc}
use Rattle.evaluation.specs.Axes.{zeros}
use Rattle.evaluation.specs.Axis.{OneAxis}

-- ---- by the place of x

-- is there none: a cell that cannot be represented?
abbrev pub is_unrepresentable : Option Loc → Bool
is_unrepresentable loc = is_none loc

-- the first of the four coefficients that count, the weights and the slopes; zeros where there is no place
abbrev pub origin_at : Option Loc → ℕ
origin_at (Some loc) = loc.origin
origin_at None = 0

abbrev pub weights_at : Format → Float → Float → Bool → Float → Option Loc → List Float
weights_at f start step linear x (Some loc) = interp_weights f linear loc.sat (past_origin f start step x loc.origin)
weights_at f start step linear x None = zeros

abbrev pub slopes_at : Format → Float → Float → Bool → Float → Option Loc → List Float
slopes_at f start step linear x (Some loc) = interp_weight_derivatives f linear loc.sat step (past_origin f start step x loc.origin)
slopes_at f start step linear x None = zeros

-- ---- the axis

module _ (f : Format) (n : ℕ) (start step : Float) where
  abbrev pub regular_axis : Bool → OneAxis
  regular_axis linear = record {
    points = n;
    no_place = λ x. is_unrepresentable (get_loc f n start step x);
    origin = λ x. origin_at (get_loc f n start step x);
    weights = λ x. weights_at f start step linear x (get_loc f n start step x);
    slopes = λ x. slopes_at f start step linear x (get_loc f n start step x);
  }

  -- x has a place there, at t past the point after its origin
  pub record SeatAt (x : Float) (sat : Saturation) (t : Float) : Type 0 where
    pub origin : ℕ
    pub place : get_loc f n start step x ≡ at sat origin
    pub past : t ≡ past_origin f start step x origin
