use Rattle.std.proofs.Common.{◌≡◌, ℕ, ◌≤◌, ◌<◌, length, get_or}
use Rattle.std.specs.Float.{nan}
use Rattle.evaluation.specs.Stages.{no_spot, Moved}
use Rattle.evaluation.proofs.stages.put_places.Given as goal

abbrev pub invariant-loop-k : goal.invariant-loop-k
invariant-loop-k g l = record {
  as_long : (length l.spots ≡ length l.initial.spots) × (length l.places ≡ length l.initial.places);
  moved : (k : ℕ) → k < l.k → Moved (g.A.Axis.view l.axis) l.stride (get_or l.xs k nan) (get_or l.initial.spots k no_spot) (get_or l.spots k no_spot);
  kept : (k : ℕ) (none : _) → k < l.k → g.A.Axis.Kept l.axis (get_or l.xs k nan) (get_or l.places k none);
  rest : (k : ℕ) → l.k ≤ k → get_or l.spots k no_spot ≡ get_or l.initial.spots k no_spot;
}
