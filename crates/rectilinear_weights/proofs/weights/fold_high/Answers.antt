use lib.Ieee.{of_bits}
use Rattle.rectilinear_weights.specs.Weights.{fold_high}
use Rattle.rectilinear_weights.proofs.weights.fold_high.Goals as goal

pub returns : goal.returns
unfolding fold_high of_bits
returns c = rw (c.mul_add.ensures, c.mul_add-2.ensures, c.mul_add-3.ensures)
