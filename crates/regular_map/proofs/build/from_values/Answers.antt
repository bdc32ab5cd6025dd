use mathlib.Core.Path.{sym, ap, ◌∙◌}
use native.Mathlib.Omega.{arith}
use lib.ListN.{length}
use Rattle.shape.proofs.Exit.{err-is}
use Rattle.regular_blocks.specs.Checks.{map_answer}
use Rattle.evaluation.proofs.Builds.{built-refused, built-at}
use Rattle.regular_map.proofs.Builds.{values-refused, values-passed}
use Rattle.regular_map.proofs.build.from_values.Goals as goal

pub returns-in_err-coefficients-clause-regular_built : goal.returns-in_err-coefficients-clause-regular_built
returns-in_err-coefficients-clause-regular_built c =
    rw (err-is {e = c.in_err-coefficients.field-0.0} c.from_residual.result c.from_residual.ensures.1) (
    let a = c.args in
    built-refused _ (values-refused a.count a.dims a.steps (length a.vals.now) (length a.coeffs.now) (length a.scratch.now) _ c.in_err-coefficients.ensures.answers))

pub returns-clause-regular_built : goal.returns-clause-regular_built
returns-clause-regular_built c =
    let a = c.args in
    let kept = c.coefficients.auto.coeffs in built-at
    (values-passed a.count a.dims a.steps (length a.vals.now) (length a.coeffs.now) (length a.scratch.now) (omega (arith, c.well_formed)) c.in_ok-coefficients.ensures.answers
    ∙ ap (map_answer a.count a.dims a.steps) (sym kept))
    c.build.ensures
