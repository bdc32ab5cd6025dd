use lib.Ieee.{binary64}
use Rattle.multibspline.proofs.Sweeps.{Substituted}
use Rattle.multibspline.proofs.back.back_rows.Given as goal

abbrev pub invariant-loop-i : goal.invariant-loop-i
invariant-loop-i l = Substituted binary64 l.along.base l.along.stride l.along.n l.along.longest l.initial.coeffs l.initial.scratch l.coeffs l.scratch l.i l.x
