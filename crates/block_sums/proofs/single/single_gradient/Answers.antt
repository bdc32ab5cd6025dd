use Rattle.block_sums.proofs.OfSingle.{gradient-entry}
use Rattle.block_sums.proofs.single.single_gradient.Goals as goal

pub returns : goal.returns
returns g c = λ checks. gradient-entry _ _ c.requires.2 (c.single.ensures checks)
