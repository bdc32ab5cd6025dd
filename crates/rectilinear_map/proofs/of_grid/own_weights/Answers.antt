use Rattle.knots.proofs.Places.{get-loc-within}
use Rattle.rectilinear_weights.specs.Weights.{interp_weights}
use Rattle.rectilinear_axis.specs.Axis.{place_weights}
use Rattle.rectilinear_axis.proofs.Located.{place_is}
use Rattle.rectilinear_map.proofs.of_grid.own_weights.Goals as goal

pub returns : goal.returns
unfolding place_weights interp_weights
returns c =
    rw (← place_is c.args.knots.now c.args.x c.loc_of-loc.ensures c.requires.1) c.by_place.ensures

pub invariant_of-by_place : goal.invariant_of-by_place
invariant_of-by_place c = record {
  four = c.requires.0;
  inside = rw (place_is c.args.knots.now c.args.x c.loc_of-loc.ensures c.requires.1) (get-loc-within c.args.knots.now c.args.x c.requires.0).span-room;
}
