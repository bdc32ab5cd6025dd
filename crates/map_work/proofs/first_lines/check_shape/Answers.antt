use mathlib.Core.Path.{refl, sym}
use native.Mathlib.Omega.{arith}
use Rattle.shape.proofs.Accepted.{refusal-suc}
use Rattle.shape.proofs.Exit.{err-is}
use Rattle.map_work.proofs.FirstThree.{limit-refused, limit-over, limit-passed}
use Rattle.map_work.proofs.first_lines.check_shape.Goals as goal

pub returns-in_err-check-clause-value : goal.returns-in_err-check-clause-value
returns-in_err-check-clause-value c =
    let above = refusal-suc c.in_err-check.field-0.0 in
    rw (err-is {e = c.in_err-check.field-0.0} c.from_residual.result c.from_residual.ensures.1)
    (sym (limit-refused c.args.count c.args.dims _ c.in_err-check.ensures (λ z. omega (arith, z, above))))

pub returns-then-coeff_storage_len-gt512-clause-value : goal.returns-then-coeff_storage_len-gt512-clause-value
returns-then-coeff_storage_len-gt512-clause-value c =
    sym (limit-over c.args.count c.args.dims _ c.in_ok-check.ensures refl _ c.coeff_storage_len.ensures c.if-coeff_storage_len-gt512.true)

pub returns-clause-value : goal.returns-clause-value
returns-clause-value c = sym (limit-passed c.args.count c.args.dims _ c.in_ok-check.ensures refl _ c.coeff_storage_len.ensures c.if-coeff_storage_len-gt512.false)
