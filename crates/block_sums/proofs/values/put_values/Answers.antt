use Rattle.evaluation.proofs.Blocks.{writing_start, writing-set}
use Rattle.block_sums.proofs.values.put_values.Goals as goal

pub loop-k-init : goal.loop-k-init
loop-k-init c = writing_start

pub loop-k-preserved : goal.loop-k-preserved
loop-k-preserved c = writing-set _ _ c.loop-k.invariant c.loop-k-test.true c.value.ensures
