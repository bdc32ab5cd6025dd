-- Demand 1 for the calls on a shape. Assumes nothing.
use lib.ListN.{take}
use Rattle.shape.specs.Sizes.{first_cell_answer}
use Rattle.shape.specs.Total.{ShapeTotal, FirstCellTotal}
use Rattle.shape.proofs.Outcome.{none, total, shape-test, line-test}

pub shape-total : ShapeTotal
shape-total count lens four = total (shape-test count lens four (λ u. none))

pub first-cell-total : FirstCellTotal
unfolding first_cell_answer
first-cell-total count lens a l four = total (shape-test count lens four (λ u. line-test (take count lens) a l (λ h. none)))
