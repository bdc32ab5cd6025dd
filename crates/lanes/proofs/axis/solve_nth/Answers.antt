use lib.Ieee.{binary64, nan}
use Rattle.shape.proofs.Lines.{nth-coefs, nth-scratch}
use Rattle.lines.specs.Rows.{coefficient, upper_number}
use Rattle.lanes.proofs.axis.solve_nth.Goals as goal

pub returns : goal.returns
returns g c =
    let a = c.args in
    let upper = upper_number binary64 (g.S.System.rows a.axis.system) in
    let solve = coefficient binary64 (g.S.System.rows a.axis.system) in
    let n = c.points-n.result in
    record {
      coeffs_after = rw c.points-n.ensures at (nth-coefs nan upper solve n a.axis.stride a.axis.longest a.l _ a.coeffs.now a.scratch.now c.first_cell_of-base.ensures c.solve_checked.ensures.coeffs_after);
      scratch_after = rw c.points-n.ensures at (nth-scratch nan upper solve n a.axis.stride a.axis.longest a.l _ a.coeffs.now a.scratch.now c.first_cell_of-base.ensures c.solve_checked.ensures.scratch_after);
    }
