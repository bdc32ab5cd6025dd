use Rattle.rectilinear_slopes.specs.Slopes.{basis_span_weight_derivatives, lagrange_derivative}
use Rattle.rectilinear_slopes.proofs.slopes.basis_span_weight_derivatives.Goals as goal

pub returns : goal.returns
unfolding basis_span_weight_derivatives lagrange_derivative
returns c =
    rw (c.lagrange_derivative.ensures, c.lagrange_derivative-2.ensures, c.lagrange_derivative-3.ensures, c.lagrange_derivative-4.ensures)
    (rw (c.basis_derivatives-ds.ensures, c.sampled-values.ensures, c.span_samples-xs.ensures))
