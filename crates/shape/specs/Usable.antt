-- What the inner functions of a fit may take for granted once its checks have passed. Assumes nothing.
use Rattle.std.specs.Prelude.{List, ℕ, ◌+◌, ◌-◌, ◌*◌, ◌≤◌, ◌<◌, take, get_or}
use Rattle.shape.specs.Shape.{size, first_cell}
use Rattle.shape.specs.Cells.{on_line}
use Rattle.shape.specs.Checks.{most_points}

-- a shape that is accepted: one to four axes of at least four points, at most 2 ^ 24 points in all
pub record Usable (count : ℕ) (lens : List ℕ) : Type 0 where
  pub some-axis : 0 < count
  pub at-most-four : count ≤ 4
  pub four-points : (a : ℕ) → a < count → 4 ≤ get_or lens a 0
  pub few-points : size (take count lens) ≤ most_points

-- the lines of an axis of n points that are s apart lie within the coefficients, and scratch has room for n upper numbers
-- and, from m on, n right sides
pub record LinesWithin (n s lines m coefs scratch : ℕ) : Type 0 where
  pub four-points : 4 ≤ n
  pub stride-pos : 0 < s
  pub row_small : n * s ≤ most_points
  pub inside : (l : ℕ) → l < lines → on_line (first_cell n s l) s (n - 1) < coefs
  pub few-points : coefs ≤ most_points
  pub upper-room : n ≤ m
  pub right-room : m + n ≤ scratch
