use mathlib.Core.Path.{sym, ◌∙◌}
use Rattle.shape.proofs.Exit.{err-is}
use Rattle.regular_map.proofs.Steps.{map-shape, map-coefs, map_steps}
use Rattle.regular_map.proofs.build.looked_at.Goals as goal

pub returns-in_err-axes : goal.returns-in_err-axes
returns-in_err-axes c =
    rw (err-is {e = c.in_err-axes.field-0.0} c.from_residual.result c.from_residual.ensures.1) (
    let a = c.args in
    map-shape a.shape.count a.shape.dims a.steps a.coeffs _ c.in_err-axes.ensures)

pub returns-then-coeffs-points_by_stride : goal.returns-then-coeffs-points_by_stride
returns-then-coeffs-points_by_stride c =
    let a = c.args in
    let f = c.in_ok-axes.ensures in
    map-coefs a.shape.count a.shape.dims a.steps a.coeffs f.0
    (λ e. c.if-coeffs-points_by_stride.true (e ∙ sym (rw (f.1.0, f.1.1) at c.points_by_stride.ensures)))

pub returns-then-any_step_bad : goal.returns-then-any_step_bad
returns-then-any_step_bad c =
    let a = c.args in
    let f = c.in_ok-axes.ensures in
    sym (map_steps a.shape.count a.shape.dims a.steps a.coeffs f.0
    (rw (f.1.0, f.1.1) at (c.if-coeffs-points_by_stride.false ∙ c.points_by_stride.ensures)) (rw f.1.0 at c.if-any_step_bad.ensures))

pub returns : goal.returns
returns c =
    let a = c.args in
    let f = c.in_ok-axes.ensures in (
      map_steps a.shape.count a.shape.dims a.steps a.coeffs f.0
          (rw (f.1.0, f.1.1) at (c.if-coeffs-points_by_stride.false ∙ c.points_by_stride.ensures)) (rw f.1.0 at c.if-any_step_bad.ensures),
      f.1,
    )
