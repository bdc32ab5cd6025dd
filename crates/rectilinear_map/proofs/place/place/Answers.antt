use native.Mathlib.Omega.{arith}
use mathlib.Core.Path.{sym, ◌∙◌}
use Rattle.shape.proofs.Exit.{err-is}
use Rattle.rectilinear_blocks.proofs.Room.{axis-sound}
use Rattle.rectilinear_map.proofs.Checks.{map-sound}
use Rattle.rectilinear_map.proofs.Placing.{grid-refused, grid-passed, placed-refused, placed-no-axis, placed_at}
use Rattle.rectilinear_map.proofs.place.place.Goals as goal

pub returns-in_err-joined : goal.returns-in_err-joined
returns-in_err-joined c =
    rw (err-is {e = c.in_err-joined.field-0.0} c.from_residual.result c.from_residual.ensures.1) (
    let a = c.args in
    placed-refused a.shape.count a.shape.dims a.grid.now a.axis a.x _
    (grid-refused a.shape.count a.shape.dims a.grid.now c.coeff_storage_len.ensures _ c.in_err-joined.ensures))

pub returns-then-joined-axis : goal.returns-then-joined-axis
returns-then-joined-axis c =
    let a = c.args in
    let f = c.in_ok-joined.ensures in
    placed-no-axis a.shape.count a.shape.dims a.grid.now a.axis a.x
    (grid-passed a.shape.count a.shape.dims a.grid.now c.coeff_storage_len.ensures (sym f.0)) (rw f.1.0 at c.if-joined-axis.true)

pub get_loc-requires : goal.get_loc-requires
get_loc-requires c =
    let s = c.args.shape in
    let f = c.in_ok-joined.ensures in
    let g = (map-sound s.count s.dims c.args.grid.now _ (omega (arith, c.well_formed)) f.0).gridded in
    axis-sound s.count s.dims c.args.grid.now (omega (arith, c.well_formed)) g _ (rw f.1.0 at c.if-joined-axis.false) (rw (f.1.0, f.1.1.0, f.1.1.1) at c.along.ensures)

pub returns : goal.returns
returns c =
    let a = c.args in
    let f = c.in_ok-joined.ensures in
    placed_at a.shape.count a.shape.dims a.grid.now a.axis a.x
    (grid-passed a.shape.count a.shape.dims a.grid.now c.coeff_storage_len.ensures (sym f.0))
    (rw f.1.0 at c.if-joined-axis.false) (c.get_loc.ensures ∙ rw (c.along.ensures, f.1.0, f.1.1.0, f.1.1.1))
