use mathlib.Core.Path.{refl}
use lib.Ieee.{of_bits}
use Rattle.rectilinear_slopes.specs.Slopes.{span_samples}
use Rattle.rectilinear_slopes.proofs.slopes.span_samples.Goals as goal

pub returns : goal.returns
unfolding span_samples of_bits
returns c = refl
