use Rattle.std.specs.Float.{binary64}
use Rattle.rectilinear_blocks.proofs.Room.{axis-sound}
use Rattle.rectilinear_map.proofs.OwnGhosts.{own-axis}
use Rattle.rectilinear_map.proofs.of_grid.OfGridMap.axis.Goals as goal

pub invariant_of-result : goal.invariant_of-result
invariant_of-result c =
    let g = c.args.self.now in
    let sound = axis-sound g.count g.dims g.knots.now g.ready.four g.gridded c.args.a c.requires c.along.ensures in
    record { four = sound.0; rising = sound.1 }

pub returns : goal.returns
returns c =
    let g = c.args.self.now in
    own-axis binary64 g.count g.dims g.knots.now g.linear g.ready.four g.gridded c.args.a c.requires c.along.ensures
