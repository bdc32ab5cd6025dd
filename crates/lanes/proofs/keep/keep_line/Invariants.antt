use Rattle.multibspline.specs.Records.{samples}
use Rattle.lanes.proofs.Groups.{Filled}
use Rattle.lanes.proofs.keep.keep_line.Given as goal

abbrev pub invariant-loop-i : goal.invariant-loop-i
invariant-loop-i l = Filled l.along.longest (samples l.along l.coeffs) l.along.n l.initial.scratch l.scratch l.i
