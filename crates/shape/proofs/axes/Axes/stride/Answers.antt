use Rattle.std.proofs.Common.{◌∙◌, ap, arith}
use Rattle.shape.specs.Shape.{product}
use Rattle.shape.proofs.Accepted.{room, after}
use Rattle.shape.proofs.axes.Axes.stride.Goals as goal

pub span-requires-clause-few : goal.span-requires-clause-few
span-requires-clause-few c =
    let a = c.args.self in
    rw (after a.dims a.count c.args.axis c.requires) (room a.count a.dims (omega (arith, c.well_formed)) a.usable c.args.axis c.requires).stride-small

pub returns : goal.returns
returns c = let a = c.args.self in c.span.ensures ∙ ap product (after a.dims a.count c.args.axis c.requires)
