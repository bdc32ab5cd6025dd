use mathlib.Core.Path.{refl}
use Rattle.interp_math.specs.Sum.{mul_add}
use Rattle.interp_math.proofs.mul_add.Goals as goal

pub returns : goal.returns
unfolding mul_add
returns c = refl
