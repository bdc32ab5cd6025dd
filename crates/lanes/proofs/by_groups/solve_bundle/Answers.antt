use Rattle.lanes.proofs.Groups.{laid-bundle}
use Rattle.lanes.proofs.by_groups.solve_bundle.Goals as goal

pub solve_group-requires-clause-lanes : goal.solve_group-requires-clause-lanes
solve_group-requires-clause-lanes g c =
    let r = c.bundle_size-count.ensures in
    (c.points-n.ensures, laid-bundle _ _ _ _ _ (rw c.points-n.ensures (g.met.S.System.four_points c.args.system)) r.0 r.1 (rw c.points-n.ensures c.requires.inside.1))
