use mathlib.Core.Path.{sym}
use Rattle.shape.proofs.Exit.{err-is}
use Rattle.capi_parts.proofs.Guards.{ready-shape, ready-length, ready-passed}
use Rattle.capi_parts.proofs.fit.check_grid.Goals as goal

pub returns-in_err-check : goal.returns-in_err-check
returns-in_err-check c =
    let a = c.args in
    rw (err-is {e = c.in_err-check.field-0.0} c.from_residual.result c.from_residual.ensures.1)
    (ready-shape a.dims.now a.grid.now _ (rw c.shape_of-shape.ensures at c.in_err-check.ensures))

pub returns-then-grid-dims : goal.returns-then-grid-dims
returns-then-grid-dims c =
    let a = c.args in
    ready-length a.dims.now a.grid.now (sym (rw c.shape_of-shape.ensures at c.in_ok-check.ensures)) c.if-grid-dims.true

pub returns : goal.returns
returns c =
    let a = c.args in
    ready-passed a.dims.now a.grid.now (sym (rw c.shape_of-shape.ensures at c.in_ok-check.ensures)) c.if-grid-dims.false
