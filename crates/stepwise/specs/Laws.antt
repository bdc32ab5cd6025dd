-- Proofs of the laws of `Spacing` at knots, which stand here since the code that states them cites no file of proofs/.
-- Assumes nothing.
use mathlib.Core.Path.{◌≡◌}
use mathlib.Core.List.{List, []}
use Prim.Native.Nat.{ℕ, ◌≤◌, ◌<◌}
use native.Mathlib.Omega.{arith}
use lib.ListN.{length}
use lib.Ieee.{Float, Format}
use Rattle.shape.specs.Shape.{points}
use Rattle.shape.specs.Checks.{first_refusal, Positive}
use Rattle.shape.specs.Fit.{Looks}
use Rattle.shape.proofs.Checks.{length-passed}
use Rattle.knots.specs.Joined.{total, knots_of}
use Rattle.knots.specs.Checks.{grid_check, knots_check}
use Rattle.knots.proofs.Totals.{length-knots_of}
use Rattle.rectilinear_weights.specs.Ghosts.{low_ghost_coeffs, high_ghost_coeffs}
use Rattle.rectilinear.specs.Fit.{solve}
use Rattle.rectilinear_lines.proofs.Rows.{looks-coefficient}

module _ (dims : List ℕ) (grid : List Float) where
  pub grid-positive : Positive (grid_check dims grid)
  grid-positive = (omega arith, tt)

  pub knots-positive : Positive (knots_check dims grid)
  knots-positive = (omega arith, tt)

  -- the joined grid has a knot for each point of each axis
  pub joined_is : first_refusal (grid_check dims grid) ≡ 0 → length grid ≡ total dims
  joined_is e = (length-passed [] (total dims) (length grid) e).0

  pub looks : (f : Format) (a : ℕ) → a < length dims → first_refusal (grid_check dims grid) ≡ 0 → 4 ≤ points dims a → Looks (solve f grid dims a) (points dims a)
  looks f a ha passed long y z same i hi =
      let ks : List Float = knots_of grid dims a in
      let e : length ks ≡ points dims a = length-knots_of grid dims a ha (joined_is passed) in
      looks-coefficient f ks (low_ghost_coeffs f ks) (high_ghost_coeffs f ks) (omega arith) y z (λ k hk. same k (omega arith)) i (omega arith)
