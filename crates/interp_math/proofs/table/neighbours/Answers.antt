use mathlib.Core.Path.{refl}
use Rattle.interp_math.specs.Sum.{summed}
use Rattle.interp_math.specs.Table.{lanes}
use Rattle.interp_math.proofs.table.neighbours.Goals as goal

pub returns : goal.returns
unfolding lanes summed
returns c = refl
