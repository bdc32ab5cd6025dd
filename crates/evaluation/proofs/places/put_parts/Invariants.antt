use Rattle.std.proofs.Common.{◌≡◌, ◌+◌, ◌*◌, length, get_or}
use Rattle.std.specs.Float.{nan}
use Rattle.shape.specs.Cells.{put}
use Rattle.evaluation.proofs.places.put_parts.Given as goal

abbrev pub invariant-loop-k : goal.invariant-loop-k
invariant-loop-k l = (length l.out ≡ length l.initial.out) × (l.out ≡ put (λ j. j * l.n + l.i) (λ j. get_or l.fn.parts j nan) l.k l.initial.out)
