use lib.Ieee.{binary64}
use Rattle.rectilinear_slopes.specs.Slopes.{sampled, column}
use Rattle.rectilinear_basis.proofs.Knots.{between-six}
use Rattle.rectilinear_slopes.proofs.slopes.sampled.Goals as goal

pub returns : goal.returns
unfolding sampled column
returns c =
    let six = between-six binary64 c.args.grid.now c.args.span in
    rw (← c.requires.2)
    (rw (c.weights_between-a.ensures, c.weights_between-b.ensures, c.weights_between-c.ensures, c.weights_between-d.ensures)
    (rw c.span_knots-u.ensures (rw six (rw six (rw six (rw six))))))
