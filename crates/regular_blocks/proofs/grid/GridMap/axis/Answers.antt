use Rattle.std.specs.Float.{binary64}
use Rattle.shape.proofs.Accepted.{axis-small}
use Rattle.regular_blocks.specs.Map.{map_from}
use Rattle.regular_blocks.proofs.Room.{axis-of}
use Rattle.regular_blocks.proofs.grid.GridMap.axis.Goals as goal

pub invariant_of-result : goal.invariant_of-result
invariant_of-result c =
    let g = c.args.self.now in
    let small = axis-small g.count g.dims g.ready.four g.ready.shape c.args.a c.requires in
    record { four = small.0; few = small.1 }

pub returns : goal.returns
returns c = let g = c.args.self.now in axis-of binary64 (map_from g.count g.dims g.starts g.steps g.linear) c.args.a
