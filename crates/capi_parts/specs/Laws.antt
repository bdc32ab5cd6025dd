-- Proof of the law of `Lent` for a regular map from C, which stands here since the code that states it cites no file of proofs/.
-- Assumes nothing.
use Prim.Native.Nat.{ℕ}
use mathlib.Core.List.{List}
use native.Mathlib.Omega.{arith}
use lib.Ieee.{Float}
use Rattle.shape.specs.Checks.{Positive}
use Rattle.capi_parts.specs.Regular.{regular_checks}

pub numbered : (dims : List ℕ) (grid : List Float) (coefs : ℕ) → Positive (regular_checks dims grid coefs)
numbered dims grid coefs = (omega arith, (omega arith, (omega arith, (omega arith, (omega arith, (omega arith, tt))))))
