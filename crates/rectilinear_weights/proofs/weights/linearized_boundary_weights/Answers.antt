use Rattle.rectilinear_weights.specs.Weights.{linearized_boundary_weights}
use Rattle.rectilinear_weights.proofs.weights.linearized_boundary_weights.Goals as goal

pub returns : goal.returns
unfolding linearized_boundary_weights
returns c =
    rw (c.mul_add.ensures, c.mul_add-2.ensures, c.mul_add-3.ensures, c.mul_add-4.ensures)
    (rw (c.basis_span_weights-weights.ensures, c.basis_span_weight_derivatives-derivs.ensures))
