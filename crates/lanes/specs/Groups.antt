-- A group of lanes by its numbers, and the rows of a system done to all of its lanes at once. For contracts inside the library.
-- Assumes nothing.
use Rattle.std.specs.Prelude.{◌≡◌, List, ℕ, ◌-◌, ◌*◌, Float}
use Rattle.std.specs.Float.Ieee as Ieee
use Rattle.std.specs.Float.{Format}
use Rattle.shape.specs.Cells.{on_line}
use Rattle.multibspline.specs.Thomas.{Left, at}
use Rattle.lines.specs.Rows.{Rows}
use Rattle.lines.specs.Turns.{step_cell}
use Rattle.lanes.specs.declared.group.Group as declared
use Rattle.lanes.specs.Lanes.{Lanes, swept, sweep_up, sweep_down}

-- of an axis of n points, the lanes from line `first` on
pub record Group : Type 0 where
  pub n : ℕ
  pub stride : ℕ
  pub first : ℕ
  pub count : ℕ
  -- how far apart the cells of a row are
  pub gap : ℕ

-- the code's record
abbrev pub group_of : {G : Type 0} → (G → ℕ) → declared.Group G → Group
group_of cells g = record { n = g.n; stride = g.stride; first = g.first; count = g.count; gap = cells g.gap }

-- the lanes lie within so many cells
abbrev pub LanesIn : Group → ℕ → Type 0
LanesIn g len = Lanes g.n g.stride g.first g.gap g.count len

-- they are lines of a system
abbrev pub LanesOf : Rows → Group → ℕ → Type 0
LanesOf s g len = (g.n ≡ s.points) × LanesIn g len

-- where row i begins
abbrev pub row_start : Group → ℕ → ℕ
row_start g i = on_line (g.first * g.n) g.stride i

-- row i with row k beside it
abbrev pub turned : (Float → Float → Float) → Group → ℕ → ℕ → List Float → List Float
turned op g i k xs = swept op (row_start g i) (row_start g k) g.gap g.count xs

-- rows 1 to k, each with the row before it; the k rows before the last, from there down, each with the row after it
abbrev pub turned_up : (ℕ → Float → Float → Float) → Group → ℕ → List Float → List Float
turned_up op g k xs = sweep_up op (g.first * g.n) g.gap g.stride g.count k xs

abbrev pub turned_down : (ℕ → Float → Float → Float) → Group → ℕ → List Float → List Float
turned_down op g k xs = sweep_down op (g.first * g.n) g.gap g.stride g.count (g.n - 1) k xs

-- ---- the rows of a system

-- what a row is divided by, from the upper number of the row before
abbrev pub left_denom : Format → Left → Float → Float
left_denom f left above = Ieee.sub f left.diag (Ieee.mul f left.lower above)

-- the upper number of a row, from that of the row before
abbrev pub upper_from : Format → Left → Float → Float
upper_from f left above = Ieee.div f left.upper (left_denom f left above)

-- a row between the ends, with the row before it eliminated
abbrev pub inner_cell : Format → (Float → Float) → Float → Float → Float → Float → Float
inner_cell f right lower d x z = Ieee.div f (Ieee.sub f (right x) (Ieee.mul f lower z)) d

-- row i of that kind, with the upper numbers in u
unfoldable pub inner_at : Format → Rows → List Float → ℕ → Float → Float → Float
inner_at f s u i = inner_cell f s.inner_right (s.inner i).lower (left_denom f (s.inner i) (at u (i - 1)))

-- the last of n rows, from its left side
unfoldable pub last_at : Format → Left → ℕ → List Float → Float → Float → Float
last_at f left n u = step_cell f left.lower (left_denom f left (at u (n - 2)))
