use lib.Ieee.{binary64}
use Rattle.lanes.specs.Groups.{inner_at}
use Rattle.lanes.proofs.Turns.{Up}
use Rattle.lanes.proofs.solve.inner_rows.Given as goal

abbrev pub invariant-loop-i : goal.invariant-loop-i
invariant-loop-i g l =
    Up (inner_at binary64 (g.S.System.rows l.system) l.upper) l.group.n l.group.stride l.group.first (g.G.Gap.cells l.group.gap) l.group.count l.initial.coeffs l.coeffs l.i
