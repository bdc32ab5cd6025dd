-- An axis of a regular map. For every format. Assumes nothing.
use Rattle.std.proofs.Common.{refl, ℕ, get_or}
use Rattle.std.specs.Float.{Format, nan}
use Rattle.evaluation.specs.Axis.{AxisOf}
use Rattle.regular_axis.specs.Axis.{regular_axis}
use Rattle.regular_blocks.specs.Map.{RegularMap}
use Rattle.regular_blocks.specs.Eval.{loc_on, weights_on, slopes_on, regular_axes}

pub axis-of : (f : Format) (m : RegularMap) (a : ℕ) → AxisOf (regular_axes f m) a (regular_axis f (get_or m.lens a 0) (get_or m.starts a nan) (get_or m.steps a nan) m.linear)
unfolding loc_on weights_on slopes_on
axis-of f m a = record { points = refl; no_place = λ x. refl; origin = λ x. refl; weights = λ x. refl; slopes = λ x. refl }
