use Rattle.regular_weights.specs.Place.{get_loc}
use Rattle.regular_weights.proofs.place.get_loc.Goals as goal

pub returns : goal.returns
unfolding get_loc
returns c = c.loc_of.ensures
