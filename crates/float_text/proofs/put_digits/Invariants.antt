use Rattle.float_text.proofs.Writing.{Printing}
use Rattle.float_text.proofs.put_digits.Given as goal

abbrev pub invariant-loop-place : goal.invariant-loop-place
invariant-loop-place l = Printing l.base l.n l.initial.out l.out l.left l.weight l.place-index
