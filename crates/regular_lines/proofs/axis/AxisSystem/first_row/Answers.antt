use mathlib.Core.Path.{refl}
use lib.Ieee.{neg, of_bits}
use Rattle.regular_lines.proofs.axis.AxisSystem.first_row.Goals as goal

pub returns-clause-upper : goal.returns-clause-upper
unfolding neg of_bits
returns-clause-upper c = refl
