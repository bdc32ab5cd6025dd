use mathlib.Core.Path.{sym}
use Rattle.shape.proofs.Exit.{err-is}
use Rattle.ledger.proofs.Stages.{call-ready-is, not-ready, then-last}
use Rattle.stepwise.proofs.steps.check_call.Goals as goal

pub returns-in_err-axes : goal.returns-in_err-axes
returns-in_err-axes g c =
    let a = c.args in
    rw (err-is {e = c.in_err-axes.field-0.0} c.from_residual.result c.from_residual.ensures.1)
    (not-ready _ _ _ _ a.coeffs a.ledger (g.met.S.Spacing.grid_positive _ _) (g.met.S.Spacing.knots_positive _ _) _ (call-ready-is _ _ _ _ a.coeffs a.ledger a.scratch) _ c.in_err-axes.ensures)

pub returns-in_err-check_scratch : goal.returns-in_err-check_scratch
returns-in_err-check_scratch g c =
    let a = c.args in
    let f = c.in_ok-axes.ensures in
    rw (err-is {e = c.in_err-check_scratch.field-0.0} c.from_residual-in_err-check_scratch.result c.from_residual-in_err-check_scratch.ensures.1)
    (then-last _ _ _ _ a.coeffs a.ledger (g.met.S.Spacing.grid_positive _ _) (g.met.S.Spacing.knots_positive _ _) _ (call-ready-is _ _ _ _ a.coeffs a.ledger a.scratch) (sym f.0) (rw (f.1.0, f.1.1) at c.in_err-check_scratch.ensures))

pub returns : goal.returns
returns g c =
    let a = c.args in
    let f = c.in_ok-axes.ensures in
    (sym (then-last _ _ _ _ a.coeffs a.ledger (g.met.S.Spacing.grid_positive _ _) (g.met.S.Spacing.knots_positive _ _) _ (call-ready-is _ _ _ _ a.coeffs a.ledger a.scratch) (sym f.0) (rw (f.1.0, f.1.1) at c.in_ok-check_scratch.ensures)), f.1)
