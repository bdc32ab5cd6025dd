use mathlib.Core.Path.{refl}
use Rattle.rectilinear_slopes.specs.Slopes.{third_divided_difference}
use Rattle.rectilinear_slopes.proofs.slopes.third_divided_difference.Goals as goal

pub returns : goal.returns
unfolding third_divided_difference
returns c = refl
