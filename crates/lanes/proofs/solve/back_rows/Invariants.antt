use lib.Ieee.{binary64}
use Rattle.lanes.specs.Lanes.{back_cell}
use Rattle.lanes.proofs.Turns.{Down}
use Rattle.lanes.proofs.solve.back_rows.Given as goal

abbrev pub invariant-loop-i : goal.invariant-loop-i
invariant-loop-i g l =
    Down (back_cell binary64 l.upper) l.group.n l.group.stride l.group.first (g.G.Gap.cells l.group.gap) l.group.count l.initial.coeffs l.coeffs l.i
