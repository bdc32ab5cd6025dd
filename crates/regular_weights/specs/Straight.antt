-- The straight line that an Outside place takes with the flag set is the one through the cubic's value and slope at that end.
-- The low end is at t = 0 of the first span, the high end at t = 1 of the last. Assumes nothing.
use Rattle.std.specs.Prelude.{◌≡◌, cond, List, [], ◌∷◌, Float}
use Rattle.std.specs.Float.{Format}
use Rattle.std.specs.Float.Ieee.{add, sub, mul, eq}
use Rattle.multibspline.specs.Numbers.{f0, f1}
use Rattle.regular_weights.specs.Weights.{cubic_bspline_weights, cubic_bspline_weight_derivatives, low_linearized_boundary_weights, high_linearized_boundary_weights, low_linearized_boundary_weight_derivatives, high_linearized_boundary_weight_derivatives}

-- weights and slopes at an end, gone on from there in a straight line by the distance u: w + u × s, and w where s is 0
unfoldable pub straight : Format → Float → List Float → List Float → List Float
straight f u [] ss = []
straight f u (w ∷ ws) [] = []
straight f u (w ∷ ws) (s ∷ ss) = cond (eq s f0) w (add f w (mul f u s)) ∷ straight f u ws ss

pub record StraightLines (f : Format) : Type 0 where
  -- at the end the weights and the slopes are the cubic's
  pub low_value : low_linearized_boundary_weights f f0 ≡ cubic_bspline_weights f f0
  pub low-slope : low_linearized_boundary_weight_derivatives f ≡ cubic_bspline_weight_derivatives f f0
  pub high_value : high_linearized_boundary_weights f f1 ≡ cubic_bspline_weights f f1
  pub high-slope : high_linearized_boundary_weight_derivatives f ≡ cubic_bspline_weight_derivatives f f1
  -- past it they go on from there in a straight line
  pub low-line : (t : Float) → low_linearized_boundary_weights f t ≡ straight f t (cubic_bspline_weights f f0) (cubic_bspline_weight_derivatives f f0)
  pub high-line : (t : Float) → high_linearized_boundary_weights f t ≡ straight f (sub f t f1) (cubic_bspline_weights f f1) (cubic_bspline_weight_derivatives f f1)

-- on both widths
abbrev pub StraightFromTheEnds : Type 0
StraightFromTheEnds = (f : Format) → StraightLines f
