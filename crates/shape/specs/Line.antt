-- A line by the numbers that the code works out. For contracts inside the library. Assumes nothing.
--     found                   those numbers: the points and the stride of its axis, its first cell, the longest axis
--     coefs, ledger, scratch  the lengths of the buffers
use Rattle.std.specs.Prelude.{◌≡◌, false, Option, Some, None, List, ℕ, ◌+◌, ◌-◌, ◌≤◌, ◌<◌, length}
use Rattle.shape.specs.Shape.{longest, points, stride, lines, first, is_line}
use Rattle.shape.specs.Cells.{on_line}
use Rattle.shape.specs.declared.line.Line.{Line}

-- line l of axis a
pub record LineIs (dims : List ℕ) (a l : ℕ) (found : Line) : Type 0 where
  pub is-axis : a < length dims
  pub is-line : l < lines dims a
  pub the-points : found.n ≡ points dims a
  pub the-stride : found.stride ≡ stride dims a
  pub the-first : found.base ≡ first dims a l
  pub the-longest : found.longest ≡ longest dims

-- what a search for it finds
abbrev pub LineLooked : List ℕ → ℕ → ℕ → Option Line → Type 0
LineLooked dims a l (Some found) = LineIs dims a l found
LineLooked dims a l None = is_line dims a l ≡ false

-- it lies within a buffer of one cell a point
abbrev pub LineInside : Line → ℕ → Type 0
LineInside found cells = on_line found.base found.stride (found.n - 1) < cells

-- and scratch has room for its upper numbers and, from the longest axis's length on, its right sides
abbrev pub LineFits : Line → ℕ → ℕ → Type 0
LineFits found coefs scratch =
    ((4 ≤ found.n) × LineInside found coefs) × ((found.n ≤ found.longest) × (found.longest + found.n ≤ scratch))
