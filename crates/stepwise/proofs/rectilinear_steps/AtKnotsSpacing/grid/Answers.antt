use lib.ListN.{take}
use Rattle.stepwise.specs.Laws.{joined_is}
use Rattle.stepwise.proofs.rectilinear_steps.AtKnotsSpacing.grid.Goals as goal

pub invariant_of-joined : goal.invariant_of-joined
invariant_of-joined c =
    let a = c.args in
    record { as_many = joined_is (take a.axes.count a.axes.dims) a.self.grid.now c.requires }
