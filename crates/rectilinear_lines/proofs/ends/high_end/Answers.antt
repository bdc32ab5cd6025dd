use mathlib.Core.Path.{refl}
use lib.Ieee.{of_bits}
use Rattle.rectilinear_lines.specs.Rows.{high_factor, high_left}
use Rattle.rectilinear_lines.proofs.ends.high_end.Goals as goal

pub returns : goal.returns
unfolding high_factor high_left of_bits
returns c = record { factor = refl; left = refl }
