-- The tridiagonal system of the lines of one axis, and the Thomas algorithm on it. Of a line of n points, n samples y give n
-- coefficients x. The left side of a row is the same for every line, since no sample is in it; its right side comes from the
-- sample of the row, in the first and the last row also from that of the row beside it. Assumes nothing.
use Rattle.std.specs.Prelude.{ℕ, ◌-◌, List, Float}
use Rattle.std.specs.Float.{Format}
use Rattle.multibspline.specs.Thomas.{Left, Row, Reduced, with_right, forward, at, uppers, rights, solution}

-- the rows of a system of `points` rows
pub record Rows : Type 0 where
  pub points : ℕ
  -- row 0, reduced: its upper number, and its right side from y(0) and y(1)
  pub first_upper : Float
  pub first_right : Float → Float → Float
  -- row i between the ends, and its right side from y(i)
  pub inner : ℕ → Left
  pub inner_right : Float → Float
  -- the last row, and its right side from y(n-1) and y(n-2)
  pub last : Left
  pub last_right : Float → Float → Float

module _ (s : Rows) (y : ℕ → Float) where
  abbrev pub first_row : Reduced
  first_row = record { upper = s.first_upper; right = s.first_right (y 0) (y 1) }

  abbrev pub inner_row : ℕ → Row
  inner_row i = with_right (s.inner i) (s.inner_right (y i))

  abbrev pub last_row : Row
  last_row = with_right s.last (s.last_right (y (s.points - 1)) (y (s.points - 2)))

  -- the rows reduced, from the first to the last
  abbrev pub reduced : Format → List Reduced
  reduced f = forward f first_row inner_row last_row s.points

-- upper number i, and the right side of row i, reduced
abbrev pub upper_number : Format → Rows → (ℕ → Float) → ℕ → Float
upper_number f s y i = at (uppers (reduced s y f)) i

abbrev pub right_side : Format → Rows → (ℕ → Float) → ℕ → Float
right_side f s y i = at (rights (reduced s y f)) i

-- coefficient i
abbrev pub coefficient : Format → Rows → (ℕ → Float) → ℕ → Float
coefficient f s y i = solution f (first_row s y) (inner_row s y) (last_row s y) s.points i
