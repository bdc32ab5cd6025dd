use Rattle.regular_weights.specs.Weights.{span_derivatives}
use Rattle.regular_weights.proofs.weights.span_derivatives.Goals as goal

pub returns : goal.returns
unfolding span_derivatives
returns c = c.by_place.ensures
