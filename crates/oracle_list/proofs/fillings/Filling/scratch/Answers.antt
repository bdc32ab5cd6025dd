use mathlib.Core.Path.{refl}
use lib.Ieee.{of_bits, neg}
use Rattle.oracle_list.proofs.fillings.Filling.scratch.Goals as goal

pub returns : goal.returns
unfolding of_bits neg
returns c = record { first = refl; step = refl }
