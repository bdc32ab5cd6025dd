use Rattle.rectilinear_axis.specs.Axis.{place_slopes}
use Rattle.rectilinear_axis.proofs.Located.{place_is, span-room}
use Rattle.rectilinear_map.proofs.of_grid.KnotsAxis.slopes.Goals as goal

pub interp_weight_derivatives-requires : goal.interp_weight_derivatives-requires
interp_weight_derivatives-requires c =
    let k = c.args.self in
    (k.four, span-room k.knots.now c.args.x c.loc_of-loc.ensures c.requires k.four)

pub returns : goal.returns
unfolding place_slopes
returns c = rw (← place_is c.args.self.knots.now c.args.x c.loc_of-loc.ensures c.requires, ← c.low_ghost_coeffs.ensures, ← c.high_ghost_coeffs.ensures) c.interp_weight_derivatives.ensures
