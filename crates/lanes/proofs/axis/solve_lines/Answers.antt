use lib.Ieee.{binary64}
use Rattle.lines.specs.Rows.{coefficient, upper_number}
use Rattle.lanes.proofs.Groups.{lone-coefs, lone-leaves}
use Rattle.lanes.proofs.axis.solve_lines.Goals as goal

pub returns-then-axis-eq1 : goal.returns-then-axis-eq1
returns-then-axis-eq1 g c =
    let one = c.if-axis-eq1.true in
    let a = c.args in
    let s = g.S.System.rows a.axis.system in
    record {
      coeffs_after = lone-coefs (upper_number binary64 s) (coefficient binary64 s) s.points a.axis.stride a.axis.count a.axis.longest a.coeffs.now a.scratch.now one _ c.solve_nth.ensures.coeffs_after;
      scratch_after = lone-leaves (upper_number binary64 s) (coefficient binary64 s) s.points a.axis.stride a.axis.count a.axis.longest a.coeffs.now a.scratch.now one _ c.solve_nth.ensures.scratch_after;
    }
