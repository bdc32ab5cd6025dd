use Rattle.std.proofs.Common.{◌*◌, ◌≡◌, arith}
use lib.ListN.{take}
use Rattle.shape.specs.Shape.{lines}
use Rattle.shape.proofs.Accepted.{room, before}
use Rattle.shape.proofs.axes.Axes.lines.Goals as goal

pub span-requires-clause-few : goal.span-requires-clause-few
span-requires-clause-few c =
    let a = c.args.self in
    rw (before a.dims a.count c.args.axis c.requires) (room a.count a.dims (omega (arith, c.well_formed)) a.usable c.args.axis c.requires).outer-small

-- the product is the lines of the axis
are : (c : goal.After-stride) → c.span.result * c.stride.result ≡ lines (take c.args.self.count c.args.self.dims) c.args.axis
are c =
    let a = c.args.self in
    rw (c.span.ensures, c.stride.ensures, before a.dims a.count c.args.axis c.requires)

pub overflow_mul-result : goal.overflow_mul-result
overflow_mul-result c =
    let a = c.args.self in
    omega (arith, are c, (room a.count a.dims (omega (arith, c.well_formed)) a.usable c.args.axis c.requires).lines-small)
