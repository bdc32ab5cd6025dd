use Rattle.std.proofs.Common.{◌≡◌, ℕ, ◌<◌, [], length, get_or}
use Rattle.std.specs.Float.{binary64, nan}
use Rattle.interp_math.specs.Sum.{dot4}
use Rattle.block_sums.proofs.gradients.over.Given as goal

abbrev pub invariant-loop-j : goal.invariant-loop-j
invariant-loop-j g l = record {
  four : length l.parts ≡ 4;
  at : (j : ℕ) → j < l.j → get_or l.parts j nan ≡ dot4 binary64 (get_or l.weights l.a []) (get_or l.row-items j []);
}
