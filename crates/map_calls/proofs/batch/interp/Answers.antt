use Rattle.std.proofs.Common.{sym}
use lib.ListN.{length}
use Rattle.shape.proofs.Exit.{err-is}
use Rattle.shape.specs.declared.answers.Refusal.TheVariants.{DimensionMismatch}
use Rattle.evaluation.proofs.Batches.{batch-refused, batch-entries}
use Rattle.evaluation.proofs.Outcomes.{batch-checks, batch-length, batch-passed}
use Rattle.map_calls.proofs.batch.interp.Goals as goal

pub returns-in_err-map : goal.returns-in_err-map
returns-in_err-map g c =
    let a = c.args in
    rw (err-is {e = c.in_err-map.field-0.0} c.from_residual.result c.from_residual.ensures.1)
    (batch-refused _ (batch-checks _ (length a.xs.now) (length a.out.now) _ c.in_err-map.ensures))

pub returns-then-xs-count : goal.returns-then-xs-count
returns-then-xs-count g c =
    let a = c.args in
    let f = c.in_ok-map.ensures in
    batch-refused DimensionMismatch
    (batch-length _ (length a.xs.now) (length a.out.now) (g.met.L.Lent.positive a.lent (length a.coeffs.now)) (sym f.0) (rw (f.1.0) at (rw c.count.ensures at c.if-xs-count.true)))

pub returns : goal.returns
returns g c =
    let a = c.args in
    let f = c.in_ok-map.ensures in
    batch-entries
    (batch-passed _ (length a.xs.now) (length a.out.now) (g.met.L.Lent.positive a.lent (length a.coeffs.now)) (sym f.0) (rw (f.1.0) at (rw c.count.ensures at c.if-xs-count.false)))
    (rw f.1.0 at c.batch.ensures _)
