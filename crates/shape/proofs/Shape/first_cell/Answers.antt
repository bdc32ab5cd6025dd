use Rattle.shape.proofs.Exit.{err-is}
use Rattle.shape.proofs.Found.{found-refused, found_none, found_at}
use Rattle.shape.proofs.Shape.first_cell.Goals as goal

pub returns-in_err-axes : goal.returns-in_err-axes
returns-in_err-axes c =
    let a = c.args in
    let e = err-is {e = c.in_err-axes.field-0.0} c.from_residual.result c.from_residual.ensures.1 in
    rw e (found-refused a.self.count a.self.dims a.axis a.line c.in_err-axes.field-0.0 c.in_err-axes.ensures)

pub returns-in-Some : goal.returns-in-Some
returns-in-Some c =
    let a = c.args in
    let found = c.in_ok-axes.ensures in
    found_at a.self.count a.self.dims a.axis a.line found.0 c.in-Some.is (rw (found.1.0, found.1.1) at c.line.ensures)

pub returns-in-None : goal.returns-in-None
returns-in-None c =
    let a = c.args in
    let found = c.in_ok-axes.ensures in
    found_none a.self.count a.self.dims a.axis a.line found.0 c.in-None.is (rw (found.1.0, found.1.1) at c.line.ensures)
