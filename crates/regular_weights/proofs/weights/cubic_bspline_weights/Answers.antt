use Rattle.std.proofs.Common.{refl}
use lib.Ieee.{of_bits}
use Rattle.regular_weights.specs.Weights.{cubic_bspline_weights}
use Rattle.regular_weights.proofs.weights.cubic_bspline_weights.Goals as goal

pub returns : goal.returns
unfolding cubic_bspline_weights of_bits
returns c = refl
