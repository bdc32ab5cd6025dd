use Rattle.regular_weights.specs.Weights.{interp_weights}
use Rattle.regular_weights.proofs.weights.interp_weights.Goals as goal

pub returns : goal.returns
unfolding interp_weights
returns c = c.by_place.ensures
