use mathlib.Core.Path.{ap}
use mathlib.Core.Bool.{not}
use native.Mathlib.Omega.{arith}
use lib.ListN.{take}
use Rattle.stepwise.specs.Laws.{joined_is}
use Rattle.stepwise.proofs.Rectilinear.{knots-fail, knots-pass}
use Rattle.stepwise.proofs.rectilinear_steps.AtKnotsSpacing.check_knots.Goals as goal

pub invariant_of-joined : goal.invariant_of-joined
invariant_of-joined c =
    let a = c.args in
    record { as_many = joined_is (take a.axes.count a.axes.dims) a.self.grid.now c.requires }

pub returns-then-not-rises : goal.returns-then-not-rises
returns-then-not-rises c =
    let a = c.args in
    knots-fail a.axes.count a.axes.dims (omega (arith, c.well_formed)) a.axes.usable a.self.grid.now c.rises.ensures (ap not c.if-not-rises.true)

pub returns : goal.returns
returns c =
    let a = c.args in
    knots-pass a.axes.count a.axes.dims (omega (arith, c.well_formed)) a.axes.usable a.self.grid.now c.rises.ensures (ap not c.if-not-rises.false)
