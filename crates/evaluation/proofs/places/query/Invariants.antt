use Rattle.std.proofs.Common.{◌≡◌}
use Rattle.evaluation.specs.Axes.{query}
use Rattle.evaluation.proofs.places.query.Given as goal

abbrev pub invariant-loop-a : goal.invariant-loop-a
invariant-loop-a l = l.x ≡ query l.a l.xs l.n l.i
