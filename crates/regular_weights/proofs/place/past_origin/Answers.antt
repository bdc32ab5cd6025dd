use Rattle.std.proofs.Common.{refl}
use Rattle.regular_weights.specs.Place.{past_origin}
use Rattle.regular_weights.proofs.place.past_origin.Goals as goal

pub returns : goal.returns
unfolding past_origin
returns c = refl
