use Rattle.oracle_list.proofs.CellLaws.{Filling}
use Rattle.oracle_list.proofs.fillings.fill.Given as goal

abbrev pub invariant-loop-cell : goal.invariant-loop-cell
invariant-loop-cell l = Filling l.initial.x l.step l.initial.cells l.cells l.x l.cell-index
