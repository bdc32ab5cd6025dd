use Rattle.lanes.proofs.Groups.{slabs-start, slabs-step}
use Rattle.lanes.proofs.by_groups.solve_slabs.Goals as goal

pub loop-k-init : goal.loop-k-init
loop-k-init g c = slabs-start

pub loop-k-preserved : goal.loop-k-preserved
loop-k-preserved g c = slabs-step c.loop-k.invariant c.loop-k-test.true c.solve_slab.ensures
