use mathlib.Core.Path.{ap}
use Prim.Native.Nat.{ℕ}
use native.Mathlib.Omega.{arith}
use lib.ListN.{length, take}
use lib.Ieee.{binary64, nan}
use Rattle.shape.proofs.Exit.{err-is}
use Rattle.lines.specs.Rows.{Rows}
use Rattle.fits.specs.Fit.{solve, upper}
use Rattle.ledger.proofs.DueBytes.{bumped-is}
use Rattle.ledger.proofs.Stages.{call-ready}
use Rattle.stepwise.proofs.OneLine.{one-coefs, one-scratch}
use Rattle.stepwise.proofs.Runs.{called-accepted, not-due, line-due}
use Rattle.stepwise.proofs.steps.call_ready.Goals as goal

pub find_due-requires : goal.find_due-requires
find_due-requires g c =
    let a = c.args in
    let p = call-ready _ _ _ _ (g.met.S.Spacing.grid_positive _ _) (g.met.S.Spacing.knots_positive _ _) (length a.coeffs.now) (length a.ledger.now) (length a.scratch.now) (omega (arith, c.well_formed)) c.requires in
    p.ledger-size

pub grid-grid-requires : goal.grid-grid-requires
grid-grid-requires g c =
    let a = c.args in
    let p = line-due _ _ _ _ (g.met.S.Spacing.grid_positive _ _) (g.met.S.Spacing.knots_positive _ _) _ _ c.requires (omega (arith, c.well_formed)) c.in_ok-found.ensures in
    p.ready.ready.grid-passed

pub solve_found-requires-clause-line_fits : goal.solve_found-requires-clause-line_fits
solve_found-requires-clause-line_fits g c =
    let a = c.args in
    let p = line-due _ _ _ _ (g.met.S.Spacing.grid_positive _ _) (g.met.S.Spacing.knots_positive _ _) _ _ c.requires (omega (arith, c.well_formed)) c.in_ok-found.ensures in
    p.fits

pub bump_line-requires : goal.bump_line-requires
bump_line-requires g c =
    let a = c.args in
    let p = line-due _ _ _ _ (g.met.S.Spacing.grid_positive _ _) (g.met.S.Spacing.knots_positive _ _) _ _ c.requires (omega (arith, c.well_formed)) c.in_ok-found.ensures in
    (omega (arith, p.is-axis, p.ready.shape.at-most-four), p.inside, p.bytes)

pub returns : goal.returns
returns g c =
    let a = c.args in
    let p = line-due _ _ _ _ (g.met.S.Spacing.grid_positive _ _) (g.met.S.Spacing.knots_positive _ _) _ _ c.requires (omega (arith, c.well_formed)) c.in_ok-found.ensures in
    let rows = g.S.Spacing.rows a.spacing (take a.axes.count a.axes.dims) in
    let u = upper binary64 rows in
    let v = solve binary64 rows in
    let eu = ap (λ (r : ℕ → Rows). upper binary64 r a.axis) c.grid-grid.ensures.rows in
    let ev = ap (λ (r : ℕ → Rows). solve binary64 r a.axis) c.grid-grid.ensures.rows in
    called-accepted p.accepted
    (one-coefs nan u v p.numbers eu ev a.coeffs.now a.scratch.now c.solve_found.ensures.coeffs_after)
    (bumped-is (take a.axes.count a.axes.dims) a.axis a.line a.ledger.now p.numbers c.bump_line.ensures)
    (one-scratch nan u v p.numbers eu ev a.coeffs.now a.scratch.now c.solve_found.ensures.scratch_after)

pub returns-in_err-found : goal.returns-in_err-found
returns-in_err-found g c =
    rw (err-is {e = c.in_err-found.field-0.0} c.from_residual.result c.from_residual.ensures.1) (
    let a = c.args in
    not-due _ _ _ _ (g.met.S.Spacing.grid_positive _ _) (g.met.S.Spacing.knots_positive _ _) _ _ c.requires _ c.in_err-found.ensures)
