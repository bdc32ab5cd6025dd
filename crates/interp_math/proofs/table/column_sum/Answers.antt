use mathlib.Core.Path.{refl}
use Rattle.interp_math.specs.Sum.{dot4}
use Rattle.interp_math.proofs.table.column_sum.Goals as goal

pub returns : goal.returns
unfolding dot4
returns c = refl
