use mathlib.Core.Path.{sym}
use Rattle.shape.proofs.Exit.{err-is}
use Rattle.shape.specs.declared.answers.Refusal.TheVariants.{DimensionMismatch}
use Rattle.capi_parts.proofs.Guards.{ready-shape, ready-length}
use Rattle.capi_parts.proofs.Evaluated.{grid-told, regular-accepted}
use Rattle.capi_parts.proofs.lent.RegularFromCLent.accept.Goals as goal

pub returns-in_err-check : goal.returns-in_err-check
returns-in_err-check c =
    let m = c.args.self in
    rw (err-is {e = c.in_err-check.field-0.0} c.from_residual.result c.from_residual.ensures.1)
    (grid-told m.dims.now m.grid.now c.args.coeffs _ (ready-shape m.dims.now m.grid.now _ (rw c.shape_of-shape.ensures at c.in_err-check.ensures)))

pub returns-then-self : goal.returns-then-self
returns-then-self c =
    let m = c.args.self in
    grid-told m.dims.now m.grid.now c.args.coeffs DimensionMismatch
    (ready-length m.dims.now m.grid.now (sym (rw c.shape_of-shape.ensures at c.in_ok-check.ensures)) c.if-self.true)

pub returns : goal.returns
returns c =
    let m = c.args.self in
    regular-accepted m.dims.now m.grid.now c.if-self.false _ c.record.ensures _ _ _ _ c.accept.ensures
