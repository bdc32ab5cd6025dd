-- The weights of a query in an inner span are the cubic's. For every format. Assumes nothing.
use Rattle.std.proofs.Common.{◌≡◌, Bool, refl}
use lib.Ieee.{Float, Format}
use Rattle.multibspline.specs.declared.saturation.Saturation.TheVariants.{None}
use Rattle.regular_weights.specs.Weights.{cubic_bspline_weights, interp_weights}

pub inner-weights : (f : Format) (linear : Bool) (t : Float) → cubic_bspline_weights f t ≡ interp_weights f linear None t
unfolding interp_weights
inner-weights f linear t = refl
