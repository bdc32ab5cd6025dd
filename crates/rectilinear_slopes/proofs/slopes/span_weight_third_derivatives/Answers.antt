use lib.Ieee.{of_bits}
use Rattle.rectilinear_slopes.specs.Slopes.{span_weight_third_derivatives}
use Rattle.rectilinear_slopes.proofs.slopes.span_weight_third_derivatives.Goals as goal

pub returns : goal.returns
unfolding span_weight_third_derivatives of_bits
returns c =
    rw (c.third_divided_difference.ensures, c.third_divided_difference-2.ensures, c.third_divided_difference-3.ensures, c.third_divided_difference-4.ensures)
    (rw (c.sampled-values.ensures, c.span_samples-xs.ensures))
