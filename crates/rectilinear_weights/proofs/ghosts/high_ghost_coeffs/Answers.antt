use Rattle.rectilinear_weights.specs.Ghosts.{high_ghost_coeffs}
use Rattle.rectilinear_weights.proofs.ghosts.high_ghost_coeffs.Goals as goal

pub returns : goal.returns
unfolding high_ghost_coeffs
returns c = rw c.span_weight_third_derivatives-q.ensures
