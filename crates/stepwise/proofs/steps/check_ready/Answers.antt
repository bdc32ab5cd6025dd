use mathlib.Core.Path.{sym}
use Rattle.shape.proofs.Exit.{err-is}
use Rattle.ledger.proofs.Stages.{at-shape, at-grid, at_held, at-knots}
use Rattle.stepwise.proofs.steps.check_ready.Goals as goal

pub returns-in_err-axes : goal.returns-in_err-axes
returns-in_err-axes g c =
    let a = c.args in
    rw (err-is {e = c.in_err-axes.field-0.0} c.from_residual.result c.from_residual.ensures.1)
    (at-shape _ _ _ _ a.coeffs a.ledger _ c.in_err-axes.ensures)

pub returns-in_err-check_grid : goal.returns-in_err-check_grid
returns-in_err-check_grid g c =
    let a = c.args in
    let f = c.in_ok-axes.ensures in
    rw (err-is {e = c.in_err-check_grid.field-0.0} c.from_residual-in_err-check_grid.result c.from_residual-in_err-check_grid.ensures.1)
    (at-grid _ _ _ _ a.coeffs a.ledger f.0 _ (rw (f.1.0, f.1.1) at c.in_err-check_grid.ensures))

pub returns-in_err-check_held : goal.returns-in_err-check_held
returns-in_err-check_held g c =
    let a = c.args in
    let f = c.in_ok-axes.ensures in
    rw (err-is {e = c.in_err-check_held.field-0.0} c.from_residual-in_err-check_held.result c.from_residual-in_err-check_held.ensures.1)
    (at_held _ _ _ _ a.coeffs a.ledger f.0 (g.met.S.Spacing.grid_positive _ _)
    (sym (rw (f.1.0, f.1.1) at c.in_ok-check_grid.ensures)) _ (rw (f.1.0, f.1.1) at c.in_err-check_held.ensures))

pub returns-in_err-check_knots : goal.returns-in_err-check_knots
returns-in_err-check_knots g c =
    let a = c.args in
    let f = c.in_ok-axes.ensures in
    rw (err-is {e = c.in_err-check_knots.field-0.0} c.from_residual-in_err-check_knots.result c.from_residual-in_err-check_knots.ensures.1)
    (at-knots _ _ _ _ a.coeffs a.ledger f.0 (g.met.S.Spacing.grid_positive _ _)
    (sym (rw (f.1.0, f.1.1) at c.in_ok-check_grid.ensures)) (sym (rw (f.1.0, f.1.1) at c.in_ok-check_held.ensures)) (rw (f.1.0, f.1.1) at c.in_err-check_knots.ensures))

pub returns : goal.returns
returns g c =
    let a = c.args in
    let f = c.in_ok-axes.ensures in (
      sym (at-knots _ _ _ _ a.coeffs a.ledger f.0 (g.met.S.Spacing.grid_positive _ _)
          (sym (rw (f.1.0, f.1.1) at c.in_ok-check_grid.ensures)) (sym (rw (f.1.0, f.1.1) at c.in_ok-check_held.ensures)) (rw (f.1.0, f.1.1) at c.in_ok-check_knots.ensures)),
      f.1,
    )
