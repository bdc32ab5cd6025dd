use Rattle.oracle_list.proofs.CellLaws.{Filled-step, Filled-bad, Filled-done}
use Rattle.oracle_list.proofs.fillings.is_filled.Goals as goal

pub returns-then-not-same_bits : goal.returns-then-not-same_bits
returns-then-not-same_bits c = search Filled-bad

pub loop-cell-preserved : goal.loop-cell-preserved
loop-cell-preserved c = search Filled-step

pub returns : goal.returns
returns c = search Filled-done
