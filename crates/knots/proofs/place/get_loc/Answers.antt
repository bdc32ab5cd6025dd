use Rattle.knots.specs.Place.{get_loc}
use Rattle.knots.proofs.place.get_loc.Goals as goal

pub returns : goal.returns
unfolding get_loc
returns c = rw (← c.count_below.ensures.0) c.loc_of.ensures
