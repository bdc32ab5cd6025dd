use Rattle.shape.proofs.Exit.{err-is}
use Rattle.stepwise.proofs.Runs.{called-unready}
use Rattle.stepwise.proofs.steps.solve_line.Goals as goal

pub returns-in_err-axes : goal.returns-in_err-axes
returns-in_err-axes g c =
    let a = c.args in
    rw (err-is {e = c.in_err-axes.field-0.0} c.from_residual.result c.from_residual.ensures.1)
    (called-unready _ _ _ _ (g.met.S.Spacing.grid_positive _ _) (g.met.S.Spacing.knots_positive _ _) (record { axis = a.axis; line = a.line; scratch = a.scratch.now }) (record { coefs = a.coeffs.now; ledger = a.ledger.now }) _ c.in_err-axes.ensures)

pub call_ready-requires : goal.call_ready-requires
call_ready-requires g c = let f = c.in_ok-axes.ensures in rw (f.1.0, f.1.1) f.0

pub returns : goal.returns
returns g c = let f = c.in_ok-axes.ensures in rw (f.1.0, f.1.1) at c.call_ready.ensures
