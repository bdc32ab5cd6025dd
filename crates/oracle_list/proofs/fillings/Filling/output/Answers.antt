use mathlib.Core.Path.{refl}
use lib.Ieee.{of_bits}
use Rattle.oracle_list.proofs.fillings.Filling.output.Goals as goal

pub returns : goal.returns
unfolding of_bits
returns c = record { first = refl; step = refl }
