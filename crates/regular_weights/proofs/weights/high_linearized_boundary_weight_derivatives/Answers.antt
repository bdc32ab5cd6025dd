use Rattle.std.proofs.Common.{refl}
use lib.Ieee.{neg, of_bits}
use Rattle.regular_weights.specs.Weights.{high_linearized_boundary_weight_derivatives}
use Rattle.regular_weights.proofs.weights.high_linearized_boundary_weight_derivatives.Goals as goal

pub returns : goal.returns
unfolding high_linearized_boundary_weight_derivatives neg of_bits
returns c = refl
