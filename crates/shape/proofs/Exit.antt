-- What the exit of a `?` hands back: the error that it met. Assumes nothing.
use Rattle.std.proofs.Common.{◌≡◌, ap}
use Rattle.std.specs.Prelude.{Result, Ok, Err}
use Rattle.std.specs.Result.{IsErrAnd}

pub err-is : {T E : Type 0} {e : E} (r : Result T E) → IsErrAnd r (λ x. x ≡ e) → r ≡ Err e
err-is (Ok x) h = absurd h
err-is (Err x) h = ap Err h
