use mathlib.Core.Path.{sym, ◌∙◌}
use native.Mathlib.Omega.{arith}
use lib.ListN.{length}
use lib.Ieee.{binary64}
use Rattle.shape.proofs.Fitted.{fitted-accepted}
use Rattle.rectilinear.proofs.Total.{fit-accepted, fit-of, scratch-of}
use Rattle.rectilinear.proofs.fit.coefficients.Goals as goal

pub invariant_of-joined : goal.invariant_of-joined
invariant_of-joined c =
    let a = c.args in
    let s = c.in_ok-axes.ensures in
    let r = fit-accepted a.shape.count a.shape.dims a.grid.now (length a.vals.now) (length a.coeffs.now) (length a.scratch.now) (omega (arith, c.well_formed)) s.0 in
    record { as_many = rw (s.1.0, s.1.1) r.joined }

pub fit-requires : goal.fit-requires
fit-requires c =
    let a = c.args in
    let s = c.in_ok-axes.ensures in
    let r = fit-accepted a.shape.count a.shape.dims a.grid.now (length a.vals.now) (length a.coeffs.now) (length a.scratch.now) (omega (arith, c.well_formed)) s.0 in
    record { samples = r.samples-sized ∙ sym r.coefs-sized; room = rw (s.1.0, s.1.1) (r.coefs-sized, r.room) }

pub returns : goal.returns
returns c =
    let a = c.args in
    let s = c.in_ok-axes.ensures in
    fitted-accepted (sym s.0) (fit-of binary64 a.grid.now s.1.0 s.1.1 a.vals.now c.fit.ensures.coeffs_after) (scratch-of binary64 a.grid.now s.1.0 s.1.1 a.vals.now a.scratch.now c.fit.ensures.scratch_after)
