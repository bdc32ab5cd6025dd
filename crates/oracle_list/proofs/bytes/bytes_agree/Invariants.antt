use Rattle.std.proofs.Common.{ℕ, ◌<◌}
use Rattle.oracle_list.specs.Agree.{ByteAgrees}
use Rattle.oracle_list.proofs.bytes.bytes_agree.Given as goal

-- the bytes before this one are as their words
abbrev pub invariant-loop-i : goal.invariant-loop-i
invariant-loop-i l = (k : ℕ) → k < l.i → ByteAgrees l.text l.first l.step l.bytes k
