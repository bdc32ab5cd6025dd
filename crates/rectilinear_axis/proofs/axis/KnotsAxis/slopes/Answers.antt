use Rattle.std.proofs.Common.{arith}
use Rattle.std.specs.Float.{binary64}
use Rattle.rectilinear_axis.specs.Axis.{place_slopes}
use Rattle.rectilinear_axis.proofs.Located.{place_is, span-room, inner-slopes-are}
use Rattle.rectilinear_axis.proofs.axis.KnotsAxis.slopes.Goals as goal

pub overflow_add-loc : goal.overflow_add-loc
overflow_add-loc c =
    let k = c.args.self in
    omega (arith, span-room k.knots.now c.args.x c.loc_of-loc.ensures c.requires k.four)

pub returns-then-loc-self : goal.returns-then-loc-self
returns-then-loc-self c =
    let k = c.args.self in
    inner-slopes-are binary64 k.knots.now _ _ k.linear c.args.x c.loc_of-loc.ensures c.requires c.if-loc-ge2.true c.if-loc-self.true c.basis_span_weight_derivatives.ensures

pub interp_weight_derivatives-requires : goal.interp_weight_derivatives-requires
interp_weight_derivatives-requires c =
    let k = c.args.self in
    (k.four, span-room k.knots.now c.args.x c.loc_of-loc.ensures c.requires k.four)

pub returns : goal.returns
unfolding place_slopes
returns c = rw (place_is c.args.self.knots.now c.args.x c.loc_of-loc.ensures c.requires) at c.interp_weight_derivatives.ensures
