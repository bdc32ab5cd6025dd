use Rattle.lanes.proofs.Turns.{up_start, up_step}
use Rattle.lanes.proofs.solve.inner_rows.Goals as goal

pub loop-i-init : goal.loop-i-init
loop-i-init g c = up_start c.requires.lanes.1

pub loop-i-preserved : goal.loop-i-preserved
loop-i-preserved g c = up_step c.loop-i.invariant c.loop-i-test.true c.inner_row.ensures
