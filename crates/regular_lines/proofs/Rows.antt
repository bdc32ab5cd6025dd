-- The system of a regular axis has the rows of specs/Rows.antt, for both formats. Assumes nothing.
use mathlib.Core.Path.{◌≡◌, refl}
use Prim.Native.Nat.{ℕ, ◌≤◌}
use lib.Ieee.{Float, Format}
use Rattle.shape.specs.Fit.{Looks}
use Rattle.multibspline.specs.Thomas.{forward, solution}
use Rattle.multibspline.specs.ByNumber.{Same}
use Rattle.multibspline.proofs.ByNumber.{by_number}
use Rattle.lines.proofs.Rows as Laws
use Rattle.regular_lines.specs.Rows.{first_row, inner_row, last_row, system, reduced, upper_number, coefficient}

module _ (f : Format) (n : ℕ) (y : ℕ → Float) where
  -- the rows reduced, and coefficient i, are what the rows give by the Thomas algorithm
  pub reduced-is : reduced f n y ≡ forward f (first_row f y) (inner_row f y) (last_row f n y) n
  reduced-is = refl

  pub coefficient-is : (i : ℕ) → coefficient f n y i ≡ solution f (first_row f y) (inner_row f y) (last_row f n y) n i
  coefficient-is i = refl

  -- the solve as it was defined before leaves the same
  pub regular-by_number : 4 ≤ n → Same f (first_row f y) (inner_row f y) (last_row f n y) n
  regular-by_number four = by_number f (first_row f y) (inner_row f y) (last_row f n y) n four

pub looks-upper : (f : Format) (n : ℕ) → 4 ≤ n → Looks (upper_number f n) n
looks-upper f n four = Laws.looks-upper f (system f n) four

pub looks-coefficient : (f : Format) (n : ℕ) → 4 ≤ n → Looks (coefficient f n) n
looks-coefficient f n four = Laws.looks-coefficient f (system f n) four
