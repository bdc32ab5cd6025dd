use Rattle.std.proofs.Common.{◌≡◌, ℕ, suc, ◌+◌, ◌*◌, ◌<◌, length, get_or}
use Rattle.std.specs.Float.{binary64}
use Rattle.shape.specs.Cells.{put}
use Rattle.evaluation.specs.Stages.{no_spot}
use Rattle.evaluation.proofs.Blocks.{Writing}
use Rattle.block_sums.specs.Sums.{part_of}
use Rattle.block_sums.proofs.gradients.put_over.Given as goal

abbrev pub invariant-loop-k : goal.invariant-loop-k
invariant-loop-k g l = let count = suc g.S.Sums.axes in record {
  four : (k : ℕ) → k < l.k → length (get_or l.spots k no_spot).weights ≡ 4;
  put : Writing (λ k o. put (λ j. j * l.n + (l.from + k)) (part_of binary64 l.coeffs l.strides count l.spots k) count o) (length l.spots) l.initial.out l.out l.k;
}
