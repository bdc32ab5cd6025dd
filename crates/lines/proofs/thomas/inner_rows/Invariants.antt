use lib.Ieee.{binary64}
use Rattle.multibspline.specs.Records.{reduced_of, samples}
use Rattle.multibspline.proofs.Sweeps.{Eliminated}
use Rattle.lines.specs.Rows.{inner_row}
use Rattle.lines.proofs.thomas.inner_rows.Given as goal

abbrev pub invariant-loop-i : goal.invariant-loop-i
invariant-loop-i g l =
    Eliminated binary64 (reduced_of l.initial.row) (inner_row (g.S.System.rows l.system) (samples l.along l.coeffs)) l.last l.along.longest l.initial.scratch l.scratch l.i (reduced_of l.row)
