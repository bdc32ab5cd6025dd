-- One rectilinear axis, by its knots, the ghost numbers of its two ends and whether the map goes on in a straight line outside its
-- grid. Each operation rounded to the format f. Assumes nothing.
--     x     a coordinate
use Rattle.std.specs.Prelude.{false, Bool, List, ℕ, length, Float}
use Rattle.std.specs.Float.{Format}
use Rattle.knots.specs.Place.{get_loc}
use Rattle.rectilinear_weights.specs.Weights.{interp_weights, interp_weight_derivatives}
use Rattle.evaluation.specs.Axis.{OneAxis}

module _ (f : Format) (ks low high : List Float) (linear : Bool) where
  -- the weights at x, and their slopes
  unfoldable pub place_weights : Float → List Float
  place_weights x = interp_weights f ks low high linear (get_loc ks x).span x (get_loc ks x).sat

  unfoldable pub place_slopes : Float → List Float
  place_slopes x = interp_weight_derivatives f ks low high linear (get_loc ks x).span x (get_loc ks x).sat

  -- every coordinate has a place
  abbrev pub rectilinear_axis : OneAxis
  rectilinear_axis = record {
    points = length ks;
    no_place = λ x. false;
    origin = λ x. (get_loc ks x).origin;
    weights = place_weights;
    slopes = place_slopes;
  }
