use Rattle.std.proofs.Common.{arith}
use lib.Ieee.{of_bits}
use Rattle.evaluation.proofs.Batches.{running-start, running-done, block-next}
use Rattle.block_sums.proofs.OfSingle.{refused-entry}
use Rattle.block_sums.proofs.single.single.Goals as goal

pub returns-then-good-lt1 : goal.returns-then-good-lt1
unfolding of_bits
returns-then-good-lt1 g c = λ checks. refused-entry (c.block-good.ensures checks) c.if-good-lt1.true

pub returns : goal.returns
unfolding of_bits
returns g c = λ checks.
    running-done _ _ _ (block-next _ _ _ (running-start _ _ _) (omega arith) (c.block-good.ensures checks) c.block-good.auto.out c.if-good-lt1.false) (omega arith)
