use Rattle.shape.proofs.Exit.{err-is}
use Rattle.block_sums.proofs.OfSingle.{value-entry}
use Rattle.block_sums.proofs.single.single_value.Goals as goal

pub returns-in_err-out : goal.returns-in_err-out
returns-in_err-out g c =
    rw (err-is {e = c.in_err-out.field-0.0} c.from_residual.result c.from_residual.ensures.1)
    (λ checks. value-entry _ _ (c.in_err-out.ensures checks))

pub returns : goal.returns
returns g c = λ checks. value-entry _ _ (c.in_ok-out.ensures checks)
