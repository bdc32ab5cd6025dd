use native.Mathlib.Omega.{arith}
use Rattle.oracle_list.proofs.CellLaws.{Filling-step, Filling-done}
use Rattle.oracle_list.proofs.fillings.fill.Goals as goal

pub loop-cell-preserved : goal.loop-cell-preserved
loop-cell-preserved c = Filling-step _ _ _ _ _ _ c.loop-cell.invariant (omega arith)

pub returns : goal.returns
returns c = Filling-done _ _ _ _ _ _ c.loop-cell.invariant (omega arith)
