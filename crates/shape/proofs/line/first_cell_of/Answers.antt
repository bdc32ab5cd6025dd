use mathlib.Core.Path.{refl}
use native.Mathlib.Omega.{arith}
use Rattle.shape.specs.Shape.{first_cell}
use Rattle.shape.proofs.line.first_cell_of.Goals as goal

pub overflow_mul-result-2 : goal.overflow_mul-result-2
unfolding first_cell
overflow_mul-result-2 c = omega (arith, c.requires.2)

pub overflow_add-result : goal.overflow_add-result
unfolding first_cell
overflow_add-result c = omega (arith, c.requires.2)

pub returns : goal.returns
unfolding first_cell
returns c = refl
