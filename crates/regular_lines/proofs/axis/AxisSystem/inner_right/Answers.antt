use mathlib.Core.Path.{refl}
use lib.Ieee.{neg, of_bits}
use Rattle.regular_lines.proofs.axis.AxisSystem.inner_right.Goals as goal

pub returns : goal.returns
unfolding neg of_bits
returns c = refl
