use Rattle.std.proofs.Common.{◌≡◌, sym, arith, length, rules}
use Rattle.std.specs.Float.{binary64}
use Rattle.rectilinear_blocks.specs.Ghosts.{ghosts}
use Rattle.rectilinear_blocks.specs.Map.{map_from}
use Rattle.rectilinear_blocks.proofs.Ghosts.{map-length, ghosts-at}
use Rattle.rectilinear_blocks.proofs.Room.{axis-sound, axis-of}
use Rattle.rectilinear_blocks.proofs.grid.GridMap.axis.Goals as goal

pub invariant_of-result : goal.invariant_of-result
invariant_of-result c =
    let g = c.args.self.now in
    let sound = axis-sound g.count g.dims g.knots.now g.ready.four g.gridded c.args.a c.requires c.axis_knots.ensures in
    record { four = sound.0; rising = sound.1 }

pub returns : goal.returns
returns c =
    let g = c.args.self.now in
    let few = g.ready.shape.at-most-four in
    let low : length g.low ≡ 4 = search (rules, map-length) in
    let high : length g.high ≡ 4 = search (rules, map-length) in
    axis-of binary64 (map_from g.count g.dims (ghosts g.low) (ghosts g.high) g.linear) g.knots.now g.ready.four g.gridded c.args.a c.requires c.axis_knots.ensures
    (ghosts-at g.low c.args.a _ (omega (arith, c.requires, few, low))) (ghosts-at g.high c.args.a _ (omega (arith, c.requires, few, high)))
