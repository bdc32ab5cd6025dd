use Prim.Native.Nat.{◌+◌, ◌≤◌}
use native.Mathlib.Omega.{arith}
use lib.ListN.{length, get_or}
use Rattle.knots.proofs.Totals.{grid-small, part-within, part-is}
use Rattle.knots.proofs.joined.Joined.along.Goals as goal
use Rattle.knots.proofs.joined.Joined.along.Goals.{After-knots_on-from}

-- the part is within the grid
within : (c : After-knots_on-from)
    → c.knots_on-from.result + get_or c.args.self.axes.dims c.args.axis 0 ≤ length c.args.self.knots.now
within c =
    let a = c.args.self.axes in
    let inside = part-within a.count a.dims (omega (arith, c.well_formed)) a.usable c.args.axis c.requires in
    omega (arith, c.args.self.as_many, c.knots_on-from.ensures)

pub knots_on-from-requires : goal.knots_on-from-requires
knots_on-from-requires c =
    let a = c.args.self.axes in
    let small = grid-small a.count a.dims (omega (arith, c.well_formed)) a.usable in
    let inside = part-within a.count a.dims (omega (arith, c.well_formed)) a.usable c.args.axis c.requires in
    omega arith

pub overflow_add-to : goal.overflow_add-to
overflow_add-to c = omega (arith, within c)

pub offset_bounds-knots-from : goal.offset_bounds-knots-from
offset_bounds-knots-from c = omega (arith, within c)

pub slice_bounds-result-end : goal.slice_bounds-result-end
slice_bounds-result-end c = omega (arith, within c)

pub returns : goal.returns
returns c =
    let a = c.args.self.axes in
    part-is a.count a.dims (omega (arith, c.well_formed)) a.usable c.args.axis c.requires c.args.self.knots.now c.knots_on-from.ensures
