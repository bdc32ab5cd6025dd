use Prim.Native.Nat.{◌-◌}
use lib.Ieee.{binary64}
use Rattle.lines.specs.Rows.{coefficient}
use Rattle.lanes.proofs.Groups.{SolvedTo}
use Rattle.lanes.proofs.by_groups.solve_ends.Given as goal

abbrev pub invariant-loop-first : goal.invariant-loop-first
invariant-loop-first g l =
    let s = g.S.System.rows l.system in
    SolvedTo (coefficient binary64 s) s.points 1 l.lines l.initial.coeffs l.coeffs l.first

abbrev pub decreases-loop-first : goal.decreases-loop-first
decreases-loop-first g l = l.lines - l.first
