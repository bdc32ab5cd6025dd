use mathlib.Core.Path.{◌≡◌}
use native.Mathlib.Omega.{arith}
use lib.ListN.{length}
use Rattle.shape.proofs.Accepted.{axes-are}
use Rattle.rectilinear.proofs.Axis.{knots-long}
use Rattle.rectilinear.proofs.grid.RectilinearGridGrid.axis.Goals as goal

pub low_ghost_coeffs-low_ghost-requires : goal.low_ghost_coeffs-low_ghost-requires
low_ghost_coeffs-low_ghost-requires c =
    let axes = c.args.self.joined.axes in
    let four : length axes.dims ≡ 4 = omega (arith, c.well_formed) in
    knots-long axes.count axes.dims four axes.usable c.args.a (rw (axes-are axes.count axes.dims four axes.usable) at c.requires) c.args.self.joined.knots.now c.args.self.joined.as_many c.along-grid.ensures

pub high_ghost_coeffs-high_ghost-requires : goal.high_ghost_coeffs-high_ghost-requires
high_ghost_coeffs-high_ghost-requires c =
    let axes = c.args.self.joined.axes in
    let four : length axes.dims ≡ 4 = omega (arith, c.well_formed) in
    knots-long axes.count axes.dims four axes.usable c.args.a (rw (axes-are axes.count axes.dims four axes.usable) at c.requires) c.args.self.joined.knots.now c.args.self.joined.as_many c.along-grid.ensures

pub invariant_of-result : goal.invariant_of-result
invariant_of-result c =
    let axes = c.args.self.joined.axes in
    let four : length axes.dims ≡ 4 = omega (arith, c.well_formed) in
    record {
      four = knots-long axes.count axes.dims four axes.usable c.args.a (rw (axes-are axes.count axes.dims four axes.usable) at c.requires) c.args.self.joined.knots.now c.args.self.joined.as_many c.along-grid.ensures;
    }
