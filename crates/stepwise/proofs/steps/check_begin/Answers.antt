use mathlib.Core.Path.{sym}
use Rattle.shape.proofs.Exit.{err-is}
use Rattle.ledger.proofs.Stages.{begin-ready, not-ready, then-last}
use Rattle.stepwise.proofs.steps.check_begin.Goals as goal

pub returns-in_err-axes : goal.returns-in_err-axes
returns-in_err-axes g c =
    let a = c.args in
    rw (err-is {e = c.in_err-axes.field-0.0} c.from_residual.result c.from_residual.ensures.1)
    (not-ready _ _ _ _ a.coeffs a.ledger (g.met.S.Spacing.grid_positive _ _) (g.met.S.Spacing.knots_positive _ _) _ (begin-ready _ _ _ _ a.vals a.coeffs a.ledger a.scratch) _ c.in_err-axes.ensures)

pub returns-in_err-check_lent : goal.returns-in_err-check_lent
returns-in_err-check_lent g c =
    let a = c.args in
    let f = c.in_ok-axes.ensures in
    rw (err-is {e = c.in_err-check_lent.field-0.0} c.from_residual-in_err-check_lent.result c.from_residual-in_err-check_lent.ensures.1)
    (then-last _ _ _ _ a.coeffs a.ledger (g.met.S.Spacing.grid_positive _ _) (g.met.S.Spacing.knots_positive _ _) _ (begin-ready _ _ _ _ a.vals a.coeffs a.ledger a.scratch) (sym f.0) (rw (f.1.0, f.1.1) at c.in_err-check_lent.ensures))

pub returns : goal.returns
returns g c =
    let a = c.args in
    let f = c.in_ok-axes.ensures in
    (sym (then-last _ _ _ _ a.coeffs a.ledger (g.met.S.Spacing.grid_positive _ _) (g.met.S.Spacing.knots_positive _ _) _ (begin-ready _ _ _ _ a.vals a.coeffs a.ledger a.scratch) (sym f.0) (rw (f.1.0, f.1.1) at c.in_ok-check_lent.ensures)), f.1)
