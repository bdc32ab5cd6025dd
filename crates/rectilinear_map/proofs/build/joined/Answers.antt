use mathlib.Core.Path.{sym, refl, ◌∙◌}
use Rattle.shape.proofs.Exit.{err-is}
use Rattle.rectilinear_map.proofs.Checks.{grid-shape, grid-length, grid-passed}
use Rattle.rectilinear_map.proofs.build.joined.Goals as goal

pub returns-in_err-axes : goal.returns-in_err-axes
returns-in_err-axes c =
    rw (err-is {e = c.in_err-axes.field-0.0} c.from_residual.result c.from_residual.ensures.1) (
    let a = c.args in
    grid-shape a.shape.count a.shape.dims a.grid.now _ c.in_err-axes.ensures)

pub returns-then-grid-knots_of_all : goal.returns-then-grid-knots_of_all
returns-then-grid-knots_of_all c =
    let a = c.args in
    let f = c.in_ok-axes.ensures in
    grid-length a.shape.count a.shape.dims a.grid.now f.0 (λ e. c.if-grid-knots_of_all.true (e ∙ sym (rw (f.1.0, f.1.1) at c.knots_of_all.ensures)))

pub returns : goal.returns
returns c =
    let a = c.args in
    let f = c.in_ok-axes.ensures in (
      grid-passed a.shape.count a.shape.dims a.grid.now f.0 (c.if-grid-knots_of_all.false ∙ (rw (f.1.0, f.1.1) at c.knots_of_all.ensures)),
      (f.1.0, (f.1.1, refl)),
    )
