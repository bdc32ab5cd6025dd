use Rattle.lanes.proofs.Turns.{down-start, down_step}
use Rattle.lanes.proofs.solve.back_rows.Goals as goal

pub loop-i-init : goal.loop-i-init
loop-i-init g c = down-start c.requires.lanes

pub loop-i-preserved : goal.loop-i-preserved
loop-i-preserved g c = down_step c.loop-i.invariant c.loop-i-test.true c.back_row.ensures
