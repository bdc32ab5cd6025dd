use Rattle.std.proofs.Common.{ℕ, ◌<◌}
use Rattle.oracle_list.specs.Agree.{test_of, CellAt}
use Rattle.oracle_list.proofs.cells.cells_agree.Given as goal

-- the cells before this one pass
abbrev pub invariant-loop-i : goal.invariant-loop-i
invariant-loop-i l = (k : ℕ) → k < l.i → CellAt (test_of l.test) l.text l.first l.cells k
