use Rattle.rectilinear_weights.specs.Ghosts.{low_ghost_coeffs}
use Rattle.rectilinear_weights.proofs.ghosts.low_ghost_coeffs.Goals as goal

pub returns : goal.returns
unfolding low_ghost_coeffs
returns c = rw c.span_weight_third_derivatives-q.ensures
