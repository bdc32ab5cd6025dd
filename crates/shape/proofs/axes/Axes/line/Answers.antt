use native.Mathlib.Omega.{arith}
use Rattle.std.proofs.Common.{refl}
use Rattle.shape.proofs.Found.{first-room}
use Rattle.shape.proofs.axes.Axes.line.Goals as goal

pub first_cell_of-base-requires : goal.first_cell_of-base-requires
first_cell_of-base-requires c =
    let a = c.args.self in
    first-room a.count a.dims (omega (arith, c.well_formed)) a.usable c.args.axis c.args.line c.if-self-axis.false c.lines.ensures c.if-lines-line.false refl c.stride-stride.ensures
