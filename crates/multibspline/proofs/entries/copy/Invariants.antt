use Rattle.multibspline.proofs.Sweeps.{Same}
use Rattle.multibspline.proofs.entries.copy.Given as goal

abbrev pub invariant-loop-i : goal.invariant-loop-i
invariant-loop-i l = Same l.vals l.initial.coeffs l.coeffs l.i
