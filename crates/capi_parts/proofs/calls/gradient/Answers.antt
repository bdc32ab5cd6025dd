use mathlib.Core.Path.{refl, sym}
use lib.ListN.{length}
use Rattle.shape.proofs.Exit.{err-is}
use Rattle.shape.specs.declared.answers.Refusal.TheVariants.{DimensionMismatch}
use Rattle.evaluation.proofs.Outcomes.{one-gradient-refused, one-length, one-gradient-answered}
use Rattle.capi_parts.proofs.Guards.{refusal-not, wrote_nothing, put_refused, slopes-not, slopes-wrote}
use Rattle.capi_parts.proofs.Evaluated.{wrote-gradient}
use Rattle.capi_parts.proofs.calls.gradient.Goals as goal

pub returns-in_err-map : goal.returns-in_err-map
returns-in_err-map g c =
    let a = c.args in
    let some = refusal-not c.in_err-map.field-0.0 refl in
    rw (err-is {e = c.in_err-map.field-0.0} c.from_residual.result c.from_residual.ensures.1)
    (wrote_nothing some (slopes-not some _ c.in_err-map.ensures (length a.slopes.now) a.x.now))

pub returns-then-slopes-axes : goal.returns-then-slopes-axes
returns-then-slopes-axes g c =
    let a = c.args in
    let f = c.in_ok-map.ensures in
    slopes-wrote _ (g.met.L.Lent.positive a.lent (length a.coeffs.now)) (rw (f.1.0) at (rw c.count-axes.ensures at c.if-slopes-axes.true)) a.x.now (sym f.0) refl

pub returns-then-x-axes : goal.returns-then-x-axes
returns-then-x-axes g c =
    let a = c.args in
    let f = c.in_ok-map.ensures in
    let whole = rw (f.1.0) at (rw c.count-axes.ensures at c.if-slopes-axes.false) in
    wrote-gradient _ a.x.now a.slopes.now f.1.1.shape.at-most-four whole
    (one-gradient-refused _ a.x.now DimensionMismatch
    (one-length _ a.x.now (g.met.L.Lent.positive a.lent (length a.coeffs.now)) (sym f.0) (rw (f.1.0) at (rw c.count-axes.ensures at c.if-x-axes.true))))
    (put_refused DimensionMismatch refl)

pub returns-in_err-parts : goal.returns-in_err-parts
returns-in_err-parts g c =
    let a = c.args in
    let f = c.in_ok-map.ensures in
    let whole = rw (f.1.0) at (rw c.count-axes.ensures at c.if-slopes-axes.false) in
    rw (err-is {e = c.in_err-parts.field-0.0} c.from_residual-in_err-parts.result c.from_residual-in_err-parts.ensures.1)
    (wrote-gradient _ a.x.now a.slopes.now f.1.1.shape.at-most-four whole
    (one-gradient-answered _ a.x.now (g.met.L.Lent.positive a.lent (length a.coeffs.now)) (sym f.0) (rw (f.1.0) at (rw c.count-axes.ensures at c.if-x-axes.false))
    (rw f.1.0 at c.in_err-parts.ensures _))
    (put_refused c.in_err-parts.field-0.0 refl))

pub returns : goal.returns
returns g c =
    let a = c.args in
    let f = c.in_ok-map.ensures in
    let whole = rw (f.1.0) at (rw c.count-axes.ensures at c.if-slopes-axes.false) in
    wrote-gradient _ a.x.now a.slopes.now f.1.1.shape.at-most-four whole
    (one-gradient-answered _ a.x.now (g.met.L.Lent.positive a.lent (length a.coeffs.now)) (sym f.0) (rw (f.1.0) at (rw c.count-axes.ensures at c.if-x-axes.false))
    (rw f.1.0 at c.in_ok-parts.ensures _))
    record { answers = refl; leaves = rw (sym c.if-slopes-axes.false) at c.put_parts.ensures }
