use Rattle.lanes.proofs.Rows.{Swept}
use Rattle.lanes.proofs.group.sweep.Given as goal

abbrev pub invariant-loop-j : goal.invariant-loop-j
invariant-loop-j g l = Swept (g.T.Turn.op l.turn) l.p l.q l.apart l.count l.initial.cells l.cells l.j
