use mathlib.Core.Path.{◌≡◌, sym, ap, ◌∙◌}
use mathlib.Core.Bool.{not}
use native.Mathlib.Omega.{arith}
use lib.ListN.{length}
use Rattle.shape.proofs.Exit.{err-is}
use Rattle.shape.proofs.Accepted.{usable, axes-are}
use Rattle.rectilinear.proofs.FitChecks.{fit-shape, fit-grid, fit-coefs, fit-knots, fit-samples, fit-scratch, fit_passed}
use Rattle.rectilinear.proofs.fit.check_fit.Goals as goal

pub returns-in_err-axes : goal.returns-in_err-axes
returns-in_err-axes c =
    rw (err-is {e = c.in_err-axes.field-0.0} c.from_residual.result c.from_residual.ensures.1)
    (fit-shape _ _ _ _ _ _ _ c.in_err-axes.ensures)

pub returns-then-knots-knots_of_all : goal.returns-then-knots-knots_of_all
returns-then-knots-knots_of_all c =
    let s = c.in_ok-axes.ensures in
    fit-grid _ _ _ _ _ _ s.0 (λ z. c.if-knots-knots_of_all.true (z ∙ sym (rw (s.1.0, s.1.1) at c.knots_of_all.ensures)))

pub returns-then-coeffs-points : goal.returns-then-coeffs-points
returns-then-coeffs-points c =
    let s = c.in_ok-axes.ensures in
    let joined = c.if-knots-knots_of_all.false ∙ (rw (s.1.0, s.1.1) at c.knots_of_all.ensures) in
    fit-coefs _ _ _ _ _ _ s.0 joined (λ z. c.if-coeffs-points.true (z ∙ sym (rw (s.1.0, s.1.1) at c.points.ensures)))

pub returns-then-not-rises : goal.returns-then-not-rises
returns-then-not-rises c =
    let s = c.in_ok-axes.ensures in
    let joined = c.if-knots-knots_of_all.false ∙ (rw (s.1.0, s.1.1) at c.knots_of_all.ensures) in
    let same = c.if-coeffs-points.false ∙ (rw (s.1.0, s.1.1) at c.points.ensures) in
    let four : length c.args.shape.dims ≡ 4 = omega (arith, c.well_formed) in
    let axes = axes-are c.args.shape.count c.args.shape.dims four (usable c.args.shape.count c.args.shape.dims four s.0) in
    let rise = rw (s.1.0, s.1.1) at c.rises.ensures in
    fit-knots _ _ _ _ _ _ s.0 joined same rise axes (ap not c.if-not-rises.true)

pub returns-then-vals-points : goal.returns-then-vals-points
returns-then-vals-points c =
    let s = c.in_ok-axes.ensures in
    let joined = c.if-knots-knots_of_all.false ∙ (rw (s.1.0, s.1.1) at c.knots_of_all.ensures) in
    let same = c.if-coeffs-points.false ∙ (rw (s.1.0, s.1.1) at c.points.ensures) in
    let four : length c.args.shape.dims ≡ 4 = omega (arith, c.well_formed) in
    let axes = axes-are c.args.shape.count c.args.shape.dims four (usable c.args.shape.count c.args.shape.dims four s.0) in
    let rise = rw (s.1.0, s.1.1) at c.rises.ensures in
    fit-samples _ _ _ _ _ _ s.0 joined same rise axes (ap not c.if-not-rises.false) (λ z. c.if-vals-points.true (z ∙ sym (rw (s.1.0, s.1.1) at c.points-2.ensures)))

pub returns-then-scratch-scratch_len : goal.returns-then-scratch-scratch_len
returns-then-scratch-scratch_len c =
    let s = c.in_ok-axes.ensures in
    let joined = c.if-knots-knots_of_all.false ∙ (rw (s.1.0, s.1.1) at c.knots_of_all.ensures) in
    let same = c.if-coeffs-points.false ∙ (rw (s.1.0, s.1.1) at c.points.ensures) in
    let four : length c.args.shape.dims ≡ 4 = omega (arith, c.well_formed) in
    let axes = axes-are c.args.shape.count c.args.shape.dims four (usable c.args.shape.count c.args.shape.dims four s.0) in
    let rise = rw (s.1.0, s.1.1) at c.rises.ensures in
    let as_many = c.if-vals-points.false ∙ (rw (s.1.0, s.1.1) at c.points-2.ensures) in
    let room = rw (s.1.0, s.1.1) at c.scratch_len.ensures in
    fit-scratch _ _ _ _ _ _ s.0 joined same rise axes (ap not c.if-not-rises.false) as_many (rw room at c.if-scratch-scratch_len.true)

pub returns : goal.returns
returns c =
    let s = c.in_ok-axes.ensures in
    let joined = c.if-knots-knots_of_all.false ∙ (rw (s.1.0, s.1.1) at c.knots_of_all.ensures) in
    let same = c.if-coeffs-points.false ∙ (rw (s.1.0, s.1.1) at c.points.ensures) in
    let four : length c.args.shape.dims ≡ 4 = omega (arith, c.well_formed) in
    let axes = axes-are c.args.shape.count c.args.shape.dims four (usable c.args.shape.count c.args.shape.dims four s.0) in
    let rise = rw (s.1.0, s.1.1) at c.rises.ensures in
    let as_many = c.if-vals-points.false ∙ (rw (s.1.0, s.1.1) at c.points-2.ensures) in
    let room = rw (s.1.0, s.1.1) at c.scratch_len.ensures in
    (fit_passed _ _ _ _ _ _ s.0 joined same rise axes (ap not c.if-not-rises.false) as_many (rw room at c.if-scratch-scratch_len.false), s.1)
