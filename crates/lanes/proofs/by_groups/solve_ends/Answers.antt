use Rattle.lanes.proofs.Groups.{to_start, to_step}
use Rattle.lanes.proofs.by_groups.solve_ends.Goals as goal

pub loop-first-init : goal.loop-first-init
loop-first-init g c = to_start

pub loop-first-preserved : goal.loop-first-preserved
loop-first-preserved g c = to_step _ c.loop-first.invariant c.solve_bundle-first.ensures.some.1 c.solve_bundle-first.ensures.coeffs_after
