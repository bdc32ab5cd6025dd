use Rattle.std.proofs.Common.{arith}
use Rattle.std.specs.Float.{binary64}
use Rattle.rectilinear_axis.specs.Axis.{place_weights}
use Rattle.rectilinear_axis.proofs.Located.{place_is, span-room, inner-is}
use Rattle.rectilinear_axis.proofs.axis.KnotsAxis.weights.Goals as goal

pub overflow_add-span : goal.overflow_add-span
overflow_add-span c =
    let k = c.args.self in
    omega (arith, span-room k.knots.now c.args.x c.loc_of-loc.ensures c.requires k.four)

pub returns-then-span-self : goal.returns-then-span-self
returns-then-span-self c =
    let k = c.args.self in
    inner-is binary64 k.knots.now _ _ k.linear c.args.x c.loc_of-loc.ensures c.requires c.if-span-ge2.true c.if-span-self.true c.inner_weights.ensures

pub interp_weights-requires : goal.interp_weights-requires
interp_weights-requires c =
    let k = c.args.self in
    (k.four, span-room k.knots.now c.args.x c.loc_of-loc.ensures c.requires k.four)

pub returns : goal.returns
unfolding place_weights
returns c = rw (place_is c.args.self.knots.now c.args.x c.loc_of-loc.ensures c.requires) at c.interp_weights.ensures
