-- The code's records, as the definitions see them: the only definitions here that are tied to a width. Assumes nothing.
use Rattle.std.specs.Prelude.{List, ℕ, ◌+◌, ◌≤◌, Float}
use Rattle.std.specs.Float.{nan}
use Rattle.shape.specs.Cells.{line}
use Rattle.shape.specs.declared.line.Line.{Line}
use Rattle.multibspline.specs.declared.rows as declared
use Rattle.multibspline.specs.Thomas.{Left, Reduced}

-- the left side of a row
abbrev pub left_of : declared.Left.Left → Left
left_of l = record { lower = l.lower; diag = l.diag; upper = l.upper }

-- a reduced row
abbrev pub reduced_of : declared.Reduced.Reduced → Reduced
reduced_of r = record { upper = r.upper; right = r.right }

-- the entries of a line, its samples before it is solved
abbrev pub samples : Line → List Float → ℕ → Float
samples l cells = line nan l.base l.stride cells

-- scratch has room for a line's upper numbers and, from the longest axis's length on, its right sides
abbrev pub LineRoom : Line → ℕ → Type 0
LineRoom l scratch = (l.n ≤ l.longest) × (l.longest + l.n ≤ scratch)
