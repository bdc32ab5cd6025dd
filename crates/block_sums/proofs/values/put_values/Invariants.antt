use Rattle.std.proofs.Common.{◌+◌, length, set}
use Rattle.std.specs.Float.{binary64}
use Rattle.evaluation.proofs.Blocks.{Writing}
use Rattle.block_sums.specs.Sums.{value_of}
use Rattle.block_sums.proofs.values.put_values.Given as goal

abbrev pub invariant-loop-k : goal.invariant-loop-k
invariant-loop-k l = Writing (λ k o. set o (l.from + k) (value_of binary64 l.coeffs l.strides l.count l.spots k)) (length l.spots) l.initial.out l.out l.k
