use mathlib.Core.Path.{sym, ap, ◌∙◌}
use lib.ListN.{length}
use lib.Ieee.{nan}
use Rattle.shape.proofs.Accepted.{axes-are}
use Rattle.shape.proofs.Loops.{axes-start, axes-step}
use Rattle.fits.proofs.by_axes.solve_axes.Goals as goal

pub loop-axis-init : goal.loop-axis-init
loop-axis-init g c = axes-start nan _ _ _

pub loop-axis-preserved : goal.loop-axis-preserved
loop-axis-preserved g c =
    let axes = c.axes-axis-end.result in
    let count = sym (ap length c.axes-axis-end.ensures.dims) ∙ axes-are axes.count axes.dims c.axes-axis-end.ensures.four axes.usable in
    axes-step nan _ _ _ c.loop-axis.invariant (rw count c.loop-axis-test.true) c.solve_axis.ensures.coeffs_after c.solve_axis.ensures.scratch_after
