use lib.Ieee.{binary64}
use Rattle.lines.specs.Rows.{coefficient}
use Rattle.lanes.proofs.Groups.{Slabs}
use Rattle.lanes.proofs.by_groups.solve_slabs.Given as goal

abbrev pub invariant-loop-k : goal.invariant-loop-k
invariant-loop-k g l =
    let s = g.S.System.rows l.system in
    Slabs (coefficient binary64 s) s.points l.s l.slabs l.initial.coeffs l.coeffs l.k
