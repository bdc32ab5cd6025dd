use Rattle.std.specs.Float.{binary64}
use Rattle.rectilinear_weights.specs.Ghosts.{low_ghost_coeffs, high_ghost_coeffs}
use Rattle.rectilinear_axis.proofs.Located.{found-at}
use Rattle.rectilinear_map.proofs.of_grid.KnotsAxis.place.Goals as goal

pub returns : goal.returns
returns c =
    let k = c.args.self in
    let ks = k.knots.now in
    let counted = c.count_below-c.ensures.0 in
    (found-at ks c.args.x c.loc_of.ensures counted k.four binary64 (low_ghost_coeffs binary64 ks) (high_ghost_coeffs binary64 ks) k.linear, counted)
