use mathlib.Core.Path.{sym}
use native.Mathlib.Omega.{arith}
use lib.ListN.{take}
use Rattle.shape.proofs.Exit.{err-is}
use Rattle.shape.proofs.Found.{line-inside}
use Rattle.ledger.proofs.DueBytes.{due-none, due-rest}
use Rattle.ledger.proofs.bytes.find_due.Goals as goal

pub returns-in_default : goal.returns-in_default
returns-in_default c =
    let a = c.args in
    due-none (take a.axes.count a.axes.dims) a.axis a.line a.ledger.now c.in_default.is c.line.ensures

pub check_bytes-requires : goal.check_bytes-requires
check_bytes-requires c =
    let a = c.args in
    line-inside a.axes.count a.axes.dims (omega (arith, c.well_formed)) a.axes.usable a.axis a.line c.in-Some.ensures c.requires

pub returns-in_err-check_bytes : goal.returns-in_err-check_bytes
returns-in_err-check_bytes c =
    let a = c.args in
    rw (err-is {e = c.in_err-check_bytes.field-0.0} c.from_residual.result c.from_residual.ensures.1)
    (due-rest (take a.axes.count a.axes.dims) a.axis a.line a.ledger.now c.in-Some.ensures c.in_err-check_bytes.ensures)

pub returns : goal.returns
returns c =
    let a = c.args in
    (c.in-Some.ensures, sym (due-rest (take a.axes.count a.axes.dims) a.axis a.line a.ledger.now c.in-Some.ensures c.in_ok-check_bytes.ensures))
