use Rattle.ledger.proofs.DueBytes.{SetTo}
use Rattle.ledger.proofs.bytes.bump_line.Given as goal

abbrev pub invariant-loop-i : goal.invariant-loop-i
invariant-loop-i l = SetTo l.found.base l.found.stride l.found.n l.next l.initial.ledger l.ledger l.i
