use lib.ListN.{take}
use Rattle.stepwise.proofs.Rectilinear.{grid-fails, grid-passes}
use Rattle.stepwise.proofs.rectilinear_steps.AtKnotsSpacing.check_grid.Goals as goal

pub returns-then-self-knots_of_all : goal.returns-then-self-knots_of_all
returns-then-self-knots_of_all c =
    let a = c.args in
    grid-fails (take a.axes.count a.axes.dims) a.self.grid.now c.knots_of_all.ensures c.if-self-knots_of_all.true

pub returns : goal.returns
returns c =
    let a = c.args in
    grid-passes (take a.axes.count a.axes.dims) a.self.grid.now c.knots_of_all.ensures c.if-self-knots_of_all.false
