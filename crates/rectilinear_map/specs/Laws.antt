-- Proofs of the laws of `Lent` for a rectilinear map, which stand here since the code that states them cites no file of proofs/.
-- Assumes nothing.
use Prim.Native.Nat.{ℕ}
use mathlib.Core.List.{List}
use native.Mathlib.Omega.{arith}
use lib.Ieee.{Float}
use Rattle.shape.specs.Checks.{Positive}
use Rattle.rectilinear_blocks.specs.Eval.{map_checks}

pub numbered : (count : ℕ) (lens : List ℕ) (grid : List Float) (coefs : ℕ) → Positive (map_checks count lens grid coefs)
numbered count lens grid coefs = (omega arith, (omega arith, (omega arith, (omega arith, (omega arith, (omega arith, tt))))))
