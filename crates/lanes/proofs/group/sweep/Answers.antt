use Rattle.lanes.proofs.Rows.{sweep-start, sweep-step}
use Rattle.lanes.proofs.group.sweep.Goals as goal

pub loop-j-init : goal.loop-j-init
loop-j-init g c = sweep-start

pub loop-j-preserved : goal.loop-j-preserved
loop-j-preserved g c = sweep-step c.loop-j.invariant c.loop-j-test.true (rw c.cells-apart.ensures c.requires) c.turn_cell.ensures
