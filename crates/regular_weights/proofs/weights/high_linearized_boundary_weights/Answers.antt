use Rattle.std.proofs.Common.{refl}
use lib.Ieee.{of_bits}
use Rattle.regular_weights.specs.Weights.{high_linearized_boundary_weights}
use Rattle.regular_weights.proofs.weights.high_linearized_boundary_weights.Goals as goal

pub returns : goal.returns
unfolding high_linearized_boundary_weights of_bits
returns c = refl
