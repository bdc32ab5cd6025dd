use Rattle.std.proofs.Common.{◌∙◌}
use Rattle.std.specs.Float.{binary64}
use Rattle.regular_axis.proofs.Seats.{inner-seat}
use Rattle.regular_axis.proofs.points.PointsAxis.weights.Goals as goal

pub returns-in-None : goal.returns-in-None
returns-in-None c =
    let a = c.args.self in
    c.cubic_bspline_weights.ensures ∙ inner-seat binary64 a.start a.step a.linear c.args.x c.requires c.in-None.is
