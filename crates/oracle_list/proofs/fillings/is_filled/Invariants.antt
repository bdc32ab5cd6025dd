use Rattle.oracle_list.proofs.CellLaws.{Filled}
use Rattle.oracle_list.proofs.fillings.is_filled.Given as goal

abbrev pub invariant-loop-cell : goal.invariant-loop-cell
invariant-loop-cell l = Filled l.initial.x l.step l.cells l.x l.cell-index
