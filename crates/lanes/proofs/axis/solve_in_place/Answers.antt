use Rattle.lanes.proofs.Groups.{slabs-room}
use Rattle.lanes.proofs.axis.solve_in_place.Goals as goal

pub solve_slabs-requires-clause-inside : goal.solve_slabs-requires-clause-inside
solve_slabs-requires-clause-inside g c =
    let p = c.requires.whole in
    (p.0, slabs-room _ _ _ _ p.1 p.2)
