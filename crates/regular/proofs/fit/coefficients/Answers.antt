use mathlib.Core.Path.{sym, ◌∙◌}
use native.Mathlib.Omega.{arith}
use lib.ListN.{length}
use lib.Ieee.{binary64}
use Rattle.shape.proofs.Fitted.{fitted-accepted}
use Rattle.regular.proofs.Total.{in-range, fit-of, scratch-of}
use Rattle.regular.proofs.fit.coefficients.Goals as goal

pub fit-requires : goal.fit-requires
fit-requires c =
    let a = c.args in
    let s = c.in_ok-axes.ensures in
    let r = in-range a.shape.count a.shape.dims (length a.vals.now) (length a.coeffs.now) (length a.scratch.now) (omega (arith, c.well_formed)) s.0 in
    record { samples = r.samples-are ∙ sym r.coefs-are; room = rw (s.1.0, s.1.1) (r.coefs-are, r.scratch-room) }

pub returns : goal.returns
returns c =
    let s = c.in_ok-axes.ensures in
    let vals = c.args.vals.now in
    fitted-accepted (sym s.0) (fit-of binary64 s.1.0 s.1.1 vals c.fit.ensures.coeffs_after) (scratch-of binary64 s.1.0 s.1.1 vals c.args.scratch.now c.fit.ensures.scratch_after)
