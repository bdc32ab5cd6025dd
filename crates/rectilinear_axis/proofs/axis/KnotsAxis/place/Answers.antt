use Rattle.std.specs.Float.{binary64}
use Rattle.rectilinear_weights.specs.Records.{ghost_numbers}
use Rattle.rectilinear_axis.proofs.Located.{found-at}
use Rattle.rectilinear_axis.proofs.axis.KnotsAxis.place.Goals as goal

pub returns : goal.returns
returns c =
    let k = c.args.self in
    let counted = c.count_below-c.ensures.0 in
    (found-at k.knots.now c.args.x c.loc_of.ensures counted k.four binary64 (ghost_numbers k.low) (ghost_numbers k.high) k.linear, counted)
