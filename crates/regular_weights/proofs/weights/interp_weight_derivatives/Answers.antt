use lib.Ieee.{of_bits}
use Rattle.regular_weights.specs.Weights.{interp_weight_derivatives}
use Rattle.regular_weights.proofs.weights.interp_weight_derivatives.Goals as goal

pub returns : goal.returns
unfolding interp_weight_derivatives of_bits
returns c = rw (← c.span_derivatives-slopes.ensures) c.scale.ensures
