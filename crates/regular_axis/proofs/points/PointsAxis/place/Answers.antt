use Rattle.std.proofs.Common.{◌+◌, ◌<◌, sym, arith}
use Rattle.std.specs.Float.{binary64}
use Rattle.regular_weights.proofs.Cells.{origin-room}
use Rattle.regular_axis.proofs.Seats.{found-at}
use Rattle.regular_axis.proofs.points.PointsAxis.place.Goals as goal

pub past_origin-t-requires : goal.past_origin-t-requires
past_origin-t-requires c =
    let a = c.args.self in
    let room : c.in-Some.loc.origin + 3 < a.n = origin-room binary64 a.start a.step c.args.x a.four (sym c.in-Some.ensures) in
    omega (arith, a.few)

pub returns-in-Some : goal.returns-in-Some
returns-in-Some c =
    let a = c.args.self in
    (found-at binary64 a.start a.step a.linear c.args.x a.four c.in-Some.ensures, record { origin = c.in-Some.loc.origin; place = sym c.in-Some.ensures; past = c.past_origin-t.ensures })
