use Rattle.evaluation.proofs.Batches.{running-start, block-next, block-stop}
use Rattle.block_sums.proofs.batches.batch.Goals as goal

pub loop-from-init : goal.loop-from-init
loop-from-init g c = λ checks. running-start _ _ _

pub returns-then-block-m : goal.returns-then-block-m
returns-then-block-m g c = λ checks. block-stop _ _ _ (c.loop-from.invariant checks) c.block_size-m.ensures.2 (c.block.ensures checks) c.if-block-m.true

pub loop-from-preserved : goal.loop-from-preserved
loop-from-preserved g c = λ checks.
    block-next _ _ _ (c.loop-from.invariant checks) c.block_size-m.ensures.2 (c.block.ensures checks) c.block.auto.out c.if-block-m.false
