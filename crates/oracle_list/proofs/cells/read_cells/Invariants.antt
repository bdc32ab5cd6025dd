use Rattle.std.proofs.Common.{◌≡◌, ℕ, ◌+◌, ◌<◌, get_or}
use Rattle.std.specs.Float.{nan}
use Rattle.oracle_list.specs.Agree.{float_at}
use Rattle.oracle_list.proofs.cells.read_cells.Given as goal

abbrev pub invariant-loop-i : goal.invariant-loop-i
invariant-loop-i l = (k : ℕ) → k < l.i → get_or l.cells k nan ≡ float_at l.text (l.first + k)
