use lib.Ieee.{neg, of_bits}
use Rattle.regular_weights.specs.Weights.{fold_low}
use Rattle.regular_weights.proofs.weights.fold_low.Goals as goal

pub returns : goal.returns
unfolding fold_low neg of_bits
returns c = rw (c.mul_add.ensures, c.mul_add-2.ensures)
