use Rattle.std.proofs.Common.{List, ◌-◌}
use Rattle.std.specs.Float.{binary64}
use Rattle.shape.specs.Checks.{Check}
use Rattle.evaluation.specs.Batch.{bad_at}
use Rattle.evaluation.specs.ByAxis.{spline_of}
use Rattle.evaluation.specs.Spline.{Spline}
use Rattle.evaluation.proofs.Batches.{Running}
use Rattle.block_sums.proofs.batches.batch.Given as goal

abbrev pub invariant-loop-from : goal.invariant-loop-from
invariant-loop-from g l = (checks : List Check) → (let s : Spline = spline_of binary64 (g.M.Map.view l.map) checks l.coeffs in Running (bad_at s l.xs l.n) (g.F.Figures.step s l.xs l.n) l.n l.initial.out l.out l.from)

abbrev pub decreases-loop-from : goal.decreases-loop-from
decreases-loop-from g l = l.n - l.from
