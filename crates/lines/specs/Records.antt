-- The code's records, as the definitions see them: the only definitions here that are tied to a width. Assumes nothing.
use Rattle.std.specs.Prelude.{◌≡◌, ℕ}
use Rattle.shape.specs.declared.line.Line.{Line}
use Rattle.shape.specs.Line.{LineInside}
use Rattle.lines.specs.Rows.{Rows}

-- a line of as many points as the system has rows, within so many cells
abbrev pub LineOf : Rows → Line → ℕ → Type 0
LineOf s l cells = (l.n ≡ s.points) × LineInside l cells
