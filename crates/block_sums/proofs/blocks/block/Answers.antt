use Rattle.std.proofs.Common.{arith}
use Rattle.std.specs.Float.{binary64}
use Rattle.block_sums.proofs.OfBlock.{block-is}
use Rattle.block_sums.proofs.blocks.block.Goals as goal

pub returns : goal.returns
returns g c = λ checks. block-is c.look-good.ensures (omega arith) binary64 checks c.args.coeffs.now (c.put.ensures checks)
