-- The system of a rectilinear axis has the rows of specs/Rows.antt, for both formats. Assumes nothing.
use mathlib.Core.Path.{◌≡◌, refl}
use mathlib.Core.List.{List}
use Prim.Native.Nat.{ℕ, ◌≤◌}
use lib.ListN.{length}
use lib.Ieee.{Float, Format}
use Rattle.shape.specs.Fit.{Looks}
use Rattle.multibspline.specs.Thomas.{forward, solution}
use Rattle.multibspline.specs.ByNumber.{Same}
use Rattle.multibspline.proofs.ByNumber.{by_number}
use Rattle.lines.proofs.Rows as Laws
use Rattle.rectilinear_lines.specs.Rows.{first_row, inner_row, last_row, system, reduced, upper_number, coefficient}

module _ (f : Format) (ks low high : List Float) (y : ℕ → Float) where
  -- the rows reduced, and coefficient i, are what the rows give by the Thomas algorithm
  pub reduced-is : reduced f ks low high y ≡ forward f (first_row f ks low y) (inner_row f ks y) (last_row f ks high y) (length ks)
  reduced-is = refl

  pub coefficient-is : (i : ℕ) → coefficient f ks low high y i ≡ solution f (first_row f ks low y) (inner_row f ks y) (last_row f ks high y) (length ks) i
  coefficient-is i = refl

  -- the solve as it was defined before leaves the same
  pub rectilinear-by_number : 4 ≤ length ks → Same f (first_row f ks low y) (inner_row f ks y) (last_row f ks high y) (length ks)
  rectilinear-by_number four = by_number f (first_row f ks low y) (inner_row f ks y) (last_row f ks high y) (length ks) four

module _ (f : Format) (ks low high : List Float) (four : 4 ≤ length ks) where
  pub looks-upper : Looks (upper_number f ks low high) (length ks)
  looks-upper = Laws.looks-upper f (system f ks low high) four

  pub looks-coefficient : Looks (coefficient f ks low high) (length ks)
  looks-coefficient = Laws.looks-coefficient f (system f ks low high) four
