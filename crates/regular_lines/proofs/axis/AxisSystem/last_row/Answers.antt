use mathlib.Core.Path.{refl}
use lib.Ieee.{neg, of_bits}
use Rattle.regular_lines.proofs.axis.AxisSystem.last_row.Goals as goal

pub returns-clause-left : goal.returns-clause-left
unfolding neg of_bits
returns-clause-left c = refl
