use native.Mathlib.Omega.{arith}
use Rattle.knots.proofs.Totals.{grid-small}
use Rattle.knots.proofs.joined.knots_of_all.Goals as goal

pub knots_on-requires : goal.knots_on-requires
knots_on-requires c = grid-small c.args.axes.count c.args.axes.dims (omega (arith, c.well_formed)) c.args.axes.usable
