-- Proofs of the laws of `Lent` for a regular map, which stand here since the code that states them cites no file of proofs/.
-- Assumes nothing.
use Prim.Native.Nat.{ℕ}
use mathlib.Core.List.{List}
use native.Mathlib.Omega.{arith}
use lib.Ieee.{Float}
use Rattle.shape.specs.Checks.{Positive}
use Rattle.regular_blocks.specs.Checks.{map_checks}

pub numbered : (count : ℕ) (lens : List ℕ) (steps : List Float) (coefs : ℕ) → Positive (map_checks count lens steps coefs)
numbered count lens steps coefs = (omega arith, (omega arith, (omega arith, (omega arith, (omega arith, tt)))))
