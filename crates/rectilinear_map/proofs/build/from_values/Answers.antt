use native.Mathlib.Omega.{arith}
use lib.ListN.{length}
use Rattle.shape.proofs.Exit.{err-is}
use Rattle.evaluation.proofs.Builds.{built-refused, built-accepted}
use Rattle.rectilinear_map.proofs.Checks.{fit-gridded}
use Rattle.rectilinear_map.proofs.build.from_values.Goals as goal

pub returns-in_err-coefficients : goal.returns-in_err-coefficients
returns-in_err-coefficients c =
    rw (err-is {e = c.in_err-coefficients.field-0.0} c.from_residual.result c.from_residual.ensures.1) (record {
      built_by_fit = built-refused _ c.in_err-coefficients.ensures.answers;
      rectilinear_fitted = c.in_err-coefficients.ensures;
    })

pub invariant_of-axes : goal.invariant_of-axes
invariant_of-axes c =
    let a = c.args in
    record { usable = (fit-gridded a.shape.count a.shape.dims a.grid.now (length a.vals.now) (length a.coeffs.now) (length a.scratch.now) (omega (arith, c.well_formed)) c.in_ok-coefficients.ensures.answers).shape }

pub invariant_of-accepted : goal.invariant_of-accepted
invariant_of-accepted c =
    let a = c.args in
    record { as_many = (fit-gridded a.shape.count a.shape.dims a.grid.now (length a.vals.now) (length a.coeffs.now) (length a.scratch.now) (omega (arith, c.well_formed)) c.in_ok-coefficients.ensures.answers).joined }

pub returns : goal.returns
returns c = record { built_by_fit = built-accepted c.in_ok-coefficients.ensures.answers c.accepted.ensures; rectilinear_fitted = c.in_ok-coefficients.ensures }
