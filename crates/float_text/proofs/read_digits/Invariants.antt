use Rattle.float_text.proofs.Reading.{Reading}
use Rattle.float_text.proofs.read_digits.Given as goal

abbrev pub invariant-loop-b : goal.invariant-loop-b
invariant-loop-b l = Reading l.base l.text l.n l.b-index
