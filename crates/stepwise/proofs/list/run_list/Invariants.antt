use lib.ListN.{take}
use lib.Ieee.{binary64, nan}
use Rattle.fits.specs.Fit.{solve, upper}
use Rattle.stepwise.proofs.Runs.{RunTo}
use Rattle.stepwise.proofs.list.run_list.Given as goal

abbrev pub invariant-loop-i : goal.invariant-loop-i
invariant-loop-i g l =
    let dims = take l.map.count l.map.dims in
    let rows = g.S.Spacing.rows l.spacing dims in
    RunTo l.map.count l.map.dims (g.S.Spacing.grid_checks l.spacing dims) (g.S.Spacing.knots_checks l.spacing dims) nan (upper binary64 rows) (solve binary64 rows) l.tasks.axes.now l.tasks.lines.now (record { coefs = l.initial.coeffs; ledger = l.initial.ledger }) l.initial.scratch l.initial.answers
    (record { coefs = l.coeffs; ledger = l.ledger }) l.scratch l.answers l.i
