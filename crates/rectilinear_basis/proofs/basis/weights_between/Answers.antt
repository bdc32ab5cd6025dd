use Rattle.rectilinear_basis.specs.Between.{weights_between}
use Rattle.rectilinear_basis.proofs.basis.weights_between.Goals as goal

pub returns : goal.returns
unfolding weights_between
returns c = c.cubic.ensures
