use mathlib.Core.Path.{sym, ◌∙◌}
use Rattle.shape.proofs.Exit.{err-is}
use Rattle.regular.proofs.FitChecks.{fit-shape, fit-coefs, fit-samples, fit-scratch, fit_passed}
use Rattle.regular.proofs.fit.check_fit.Goals as goal

pub returns-in_err-axes : goal.returns-in_err-axes
returns-in_err-axes c =
    rw (err-is {e = c.in_err-axes.field-0.0} c.from_residual.result c.from_residual.ensures.1)
    (fit-shape _ _ _ _ _ _ c.in_err-axes.ensures)

pub returns-then-coeffs-points : goal.returns-then-coeffs-points
returns-then-coeffs-points c =
    let s = c.in_ok-axes.ensures in
    let points = rw (s.1.0, s.1.1) at c.points.ensures in
    fit-coefs _ _ _ _ _ s.0 (λ e. c.if-coeffs-points.true (e ∙ sym points))

pub returns-then-vals-points : goal.returns-then-vals-points
returns-then-vals-points c =
    let s = c.in_ok-axes.ensures in
    let points = rw (s.1.0, s.1.1) at c.points.ensures in
    let points-2 = rw (s.1.0, s.1.1) at c.points-2.ensures in
    fit-samples _ _ _ _ _ s.0 (c.if-coeffs-points.false ∙ points) (λ e. c.if-vals-points.true (e ∙ sym points-2))

pub returns-then-scratch-scratch_len : goal.returns-then-scratch-scratch_len
returns-then-scratch-scratch_len c =
    let s = c.in_ok-axes.ensures in
    let points = rw (s.1.0, s.1.1) at c.points.ensures in
    let points-2 = rw (s.1.0, s.1.1) at c.points-2.ensures in
    let room = rw (s.1.0, s.1.1) at c.scratch_len.ensures in
    fit-scratch _ _ _ _ _ s.0 (c.if-coeffs-points.false ∙ points) (c.if-vals-points.false ∙ points-2) (rw room at c.if-scratch-scratch_len.true)

pub returns : goal.returns
returns c =
    let s = c.in_ok-axes.ensures in
    let points = rw (s.1.0, s.1.1) at c.points.ensures in
    let points-2 = rw (s.1.0, s.1.1) at c.points-2.ensures in
    let room = rw (s.1.0, s.1.1) at c.scratch_len.ensures in
    (fit_passed _ _ _ _ _ s.0 (c.if-coeffs-points.false ∙ points) (c.if-vals-points.false ∙ points-2) (rw room at c.if-scratch-scratch_len.false), s.1)
