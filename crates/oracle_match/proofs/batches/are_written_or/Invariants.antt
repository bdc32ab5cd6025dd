use Rattle.std.proofs.Common.{ℕ, ◌<◌, length}
use Rattle.oracle_list.proofs.CellLaws.{Counting}
use Rattle.oracle_match.specs.Batches.{CellOf}
use Rattle.oracle_match.proofs.batches.are_written_or.Given as goal

-- `before` is what this cell held, and the cells before it are as they should be
abbrev pub invariant-loop-i : goal.invariant-loop-i
invariant-loop-i l = record {
  counts : Counting l.initial.before l.step (length l.cells) l.before l.i;
  done : (k : ℕ) → k < l.i → CellOf l.text l.first l.n l.written l.initial.before l.step l.cells k;
}
