use mathlib.Core.Path.{refl}
use lib.Ieee.{of_bits}
use Rattle.rectilinear_lines.specs.Rows.{low_factor, low_left}
use Rattle.rectilinear_lines.proofs.ends.low_end.Goals as goal

pub returns : goal.returns
unfolding low_factor low_left of_bits
returns c = record { factor = refl; left = refl }
