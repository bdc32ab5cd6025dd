use Rattle.std.proofs.Common.{sym}
use lib.ListN.{length}
use Rattle.shape.proofs.Exit.{err-is}
use Rattle.shape.specs.declared.answers.Refusal.TheVariants.{DimensionMismatch}
use Rattle.evaluation.proofs.Batches.{batch-refused, batch-entries}
use Rattle.evaluation.proofs.Outcomes.{gradient-checks, gradient-whole, gradient-length, gradient-passed}
use Rattle.map_calls.proofs.batch.interp_grad.Goals as goal

pub returns-in_err-map : goal.returns-in_err-map
returns-in_err-map g c =
    let a = c.args in
    rw (err-is {e = c.in_err-map.field-0.0} c.from_residual.result c.from_residual.ensures.1)
    (batch-refused _ (gradient-checks _ (length a.xs.now) (length a.out.now) _ c.in_err-map.ensures))

pub returns-then-out-count-ne0 : goal.returns-then-out-count-ne0
returns-then-out-count-ne0 g c =
    let a = c.args in
    let f = c.in_ok-map.ensures in
    batch-refused DimensionMismatch
    (gradient-whole _ (length a.xs.now) (length a.out.now) (g.met.L.Lent.positive a.lent (length a.coeffs.now)) (sym f.0) (rw (f.1.0) at (rw c.count-count.ensures at c.if-out-count-ne0.true)))

pub returns-then-xs-out : goal.returns-then-xs-out
returns-then-xs-out g c =
    let a = c.args in
    let f = c.in_ok-map.ensures in
    batch-refused DimensionMismatch
    (gradient-length _ (length a.xs.now) (length a.out.now) (g.met.L.Lent.positive a.lent (length a.coeffs.now)) (sym f.0)
    (rw (f.1.0) at (rw c.count-count.ensures at c.if-out-count-ne0.false)) c.if-xs-out.true)

pub returns : goal.returns
returns g c =
    let a = c.args in
    let f = c.in_ok-map.ensures in
    batch-entries
    (gradient-passed _ (length a.xs.now) (length a.out.now) (g.met.L.Lent.positive a.lent (length a.coeffs.now)) (sym f.0)
    (rw (f.1.0) at (rw c.count-count.ensures at c.if-out-count-ne0.false)) c.if-xs-out.false)
    (rw (c.count-count.ensures, f.1.0) at c.batch.ensures _)
