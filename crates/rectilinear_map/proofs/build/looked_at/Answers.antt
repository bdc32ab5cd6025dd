use mathlib.Core.Path.{sym, ◌∙◌}
use native.Mathlib.Omega.{arith}
use Rattle.shape.proofs.Exit.{err-is}
use Rattle.rectilinear_map.proofs.Checks.{shape-passed, grid-joined, map-grid, map-coefs, map-falls, map-passed}
use Rattle.rectilinear_map.proofs.build.looked_at.Goals as goal

pub returns-in_err-joined : goal.returns-in_err-joined
returns-in_err-joined c =
    rw (err-is {e = c.in_err-joined.field-0.0} c.from_residual.result c.from_residual.ensures.1) (
    let a = c.args in
    map-grid a.shape.count a.shape.dims a.grid.now a.coeffs _ c.in_err-joined.ensures)

pub returns-then-coeffs-points_by_stride : goal.returns-then-coeffs-points_by_stride
returns-then-coeffs-points_by_stride c =
    let a = c.args in
    let f = c.in_ok-joined.ensures in
    let s = a.shape in
    map-coefs s.count s.dims a.grid.now a.coeffs (shape-passed s.count s.dims a.grid.now f.0) (grid-joined s.count s.dims a.grid.now f.0)
    (λ e. c.if-coeffs-points_by_stride.true (e ∙ sym (rw (f.1.0, f.1.1.0) at c.points_by_stride.ensures)))

pub returns-then-not-rises : goal.returns-then-not-rises
returns-then-not-rises c =
    let a = c.args in
    let f = c.in_ok-joined.ensures in
    let s = a.shape in
    map-falls s.count s.dims a.grid.now a.coeffs (shape-passed s.count s.dims a.grid.now f.0) (grid-joined s.count s.dims a.grid.now f.0)
    (rw (f.1.0, f.1.1.0) at (c.if-coeffs-points_by_stride.false ∙ c.points_by_stride.ensures)) (omega (arith, c.well_formed))
    (rw (f.1.0, f.1.1.0, f.1.1.1) at (sym c.rises.ensures ∙ c.if-not-rises.true))

pub returns : goal.returns
returns c =
    let a = c.args in
    let f = c.in_ok-joined.ensures in
    let s = a.shape in (
      map-passed s.count s.dims a.grid.now a.coeffs (shape-passed s.count s.dims a.grid.now f.0) (grid-joined s.count s.dims a.grid.now f.0)
          (rw (f.1.0, f.1.1.0) at (c.if-coeffs-points_by_stride.false ∙ c.points_by_stride.ensures)) (omega (arith, c.well_formed))
          (rw (f.1.0, f.1.1.0, f.1.1.1) at (sym c.rises.ensures ∙ c.if-not-rises.false)),
      f.1,
    )
