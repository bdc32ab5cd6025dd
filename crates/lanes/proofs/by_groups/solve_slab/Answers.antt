use Rattle.lanes.proofs.Groups.{laid-slab}
use Rattle.lanes.proofs.by_groups.solve_slab.Goals as goal

pub solve_group-requires-clause-lanes : goal.solve_group-requires-clause-lanes
solve_group-requires-clause-lanes g c =
    let p = c.requires.inside in
    (c.points.ensures, laid-slab _ _ _ _ _ (rw c.points.ensures (g.met.S.System.four_points c.args.system)) p.0 p.1 (rw c.points.ensures p.2))
