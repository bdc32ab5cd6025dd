use Rattle.std.proofs.Common.{sym}
use lib.ListN.{length}
use Rattle.shape.proofs.Exit.{err-is}
use Rattle.shape.specs.declared.answers.Refusal.TheVariants.{DimensionMismatch}
use Rattle.evaluation.proofs.Outcomes.{one-gradient-refused, one-checks, one-length, one-gradient-answered}
use Rattle.map_calls.proofs.one.interp_one_grad.Goals as goal

pub returns-in_err-map : goal.returns-in_err-map
returns-in_err-map g c =
    rw (err-is {e = c.in_err-map.field-0.0} c.from_residual.result c.from_residual.ensures.1)
    (one-gradient-refused _ c.args.x.now _ (one-checks _ c.args.x.now _ c.in_err-map.ensures))

pub returns-then-x-count : goal.returns-then-x-count
returns-then-x-count g c =
    let a = c.args in
    let f = c.in_ok-map.ensures in
    one-gradient-refused _ a.x.now DimensionMismatch
    (one-length _ a.x.now (g.met.L.Lent.positive a.lent (length a.coeffs.now)) (sym f.0) (rw (f.1.0) at (rw c.count.ensures at c.if-x-count.true)))

pub returns : goal.returns
returns g c =
    let a = c.args in
    let f = c.in_ok-map.ensures in
    one-gradient-answered _ a.x.now (g.met.L.Lent.positive a.lent (length a.coeffs.now)) (sym f.0) (rw (f.1.0) at (rw c.count.ensures at c.if-x-count.false))
    (rw f.1.0 at c.single_gradient.ensures _)
