use Rattle.std.proofs.Common.{◌≡◌, ℕ, ◌<◌, get_or}
use Rattle.evaluation.specs.Stages.{no_spot}
use Rattle.evaluation.proofs.map.zero_firsts.Given as goal

abbrev pub invariant-loop-spot : goal.invariant-loop-spot
invariant-loop-spot l = (k : ℕ) → k < l.spot-index → (get_or l.spots k no_spot).first ≡ 0
