use mathlib.Core.Path.{refl, sym, ◌∙◌}
use lib.ListN.{length}
use Rattle.shape.proofs.Exit.{err-is}
use Rattle.capi_parts.specs.Regular.{grid_ready_checks, fit_checks}
use Rattle.capi_parts.proofs.Guards.{refusal-not, refused-some, fitted-nothing}
use Rattle.capi_parts.proofs.Evaluated.{fit-dropped, values-dropped}
use Rattle.capi_parts.proofs.fit.from_values.Goals as goal

pub returns-in_err-check_grid : goal.returns-in_err-check_grid
returns-in_err-check_grid c =
    let a = c.args in
    let r = c.in_err-check_grid.field-0.0 in
    let some = refusal-not r refl in
    let e = refused-some (grid_ready_checks a.dims.now a.grid.now) _ _ c.in_err-check_grid.ensures some in
    rw (err-is {e = r} c.from_residual.result c.from_residual.ensures.1)
    record { answers = refused-some (fit_checks a.dims.now a.grid.now (length a.vals.now) (length a.coeffs.now) (length a.scratch.now)) _ _ e some; fits = fitted-nothing some e }

pub returns-in_err-from_values_with_workspace : goal.returns-in_err-from_values_with_workspace
returns-in_err-from_values_with_workspace c =
    let a = c.args in
    let told = c.in_ok-check_grid.ensures in
    let built = c.in_err-from_values_with_workspace.ensures in
    rw (err-is {e = c.in_err-from_values_with_workspace.field-0.0} c.from_residual-in_err-from_values_with_workspace.result c.from_residual-in_err-from_values_with_workspace.ensures.1)
    record {
      answers = (rw (c.shape_of-shape.ensures, c.four_from-steps.ensures) at built.regular_built.answers) ∙ sym (values-dropped a.dims.now a.grid.now told refl (length a.vals.now) (length a.coeffs.now) (length a.scratch.now));
      fits = rw (fit-dropped a.dims.now a.grid.now told refl (length a.vals.now) (length a.coeffs.now) (length a.scratch.now)) (rw c.shape_of-shape.ensures at built.regular_fit_leaves);
    }

pub returns : goal.returns
returns c =
    let a = c.args in
    let told = c.in_ok-check_grid.ensures in
    let built = c.in_ok-from_values_with_workspace.ensures in
    record {
      answers = (rw (c.shape_of-shape.ensures, c.four_from-steps.ensures) at built.regular_built.answers) ∙ sym (values-dropped a.dims.now a.grid.now told refl (length a.vals.now) (length a.coeffs.now) (length a.scratch.now));
      fits = rw (fit-dropped a.dims.now a.grid.now told refl (length a.vals.now) (length a.coeffs.now) (length a.scratch.now)) (rw c.shape_of-shape.ensures at built.regular_fit_leaves);
    }
