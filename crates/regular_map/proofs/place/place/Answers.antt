use mathlib.Core.Path.{sym}
use lib.Ieee.{binary64}
use Rattle.shape.proofs.Exit.{err-is}
use Rattle.regular_map.proofs.Placing.{record-refused, record-passed, placed-refused, placed-no-axis, placed_at, placed-nowhere}
use Rattle.regular_map.proofs.place.place.Goals as goal

pub returns-in_err-looked_at : goal.returns-in_err-looked_at
returns-in_err-looked_at c =
    rw (err-is {e = c.in_err-looked_at.field-0.0} c.from_residual.result c.from_residual.ensures.1) (
    let a = c.args.map in
    placed-refused binary64 a.count a.dims a.starts a.steps c.args.axis c.args.x _
    (record-refused a.count a.dims a.steps c.coeff_storage_len.ensures _ c.in_err-looked_at.ensures))

pub returns-then-count-axis : goal.returns-then-count-axis
returns-then-count-axis c =
    let a = c.args.map in
    placed-no-axis binary64 a.count a.dims a.starts a.steps c.args.axis c.args.x
    (record-passed a.count a.dims a.steps c.coeff_storage_len.ensures (sym c.in_ok-looked_at.ensures.0)) c.if-count-axis.true

pub returns-in-Some : goal.returns-in-Some
returns-in-Some c =
    let a = c.args.map in
    placed_at binary64 a.count a.dims a.starts a.steps c.args.axis c.args.x
    (record-passed a.count a.dims a.steps c.coeff_storage_len.ensures (sym c.in_ok-looked_at.ensures.0))
    c.if-count-axis.false c.get_loc.ensures c.in-Some.is

pub returns-in-None : goal.returns-in-None
returns-in-None c =
    let a = c.args.map in
    placed-nowhere binary64 a.count a.dims a.starts a.steps c.args.axis c.args.x
    (record-passed a.count a.dims a.steps c.coeff_storage_len.ensures (sym c.in_ok-looked_at.ensures.0))
    c.if-count-axis.false c.get_loc.ensures c.in-None.is
