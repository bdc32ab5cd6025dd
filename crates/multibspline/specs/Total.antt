-- Demand 1 for `solve_line`, on either grid. Assumes nothing.
use Rattle.std.specs.Prelude.{[], ◌∷◌, ℕ, ◌+◌, ◌-◌, ◌≤◌, ◌<◌}
use Rattle.shape.specs.Cells.{on_line}
use Rattle.shape.specs.Outcome.{refuse_unless, Total}
use Rattle.multibspline.specs.Line.{line_answer}

-- four points; room for n upper numbers and n right sides; the last cell is among the coefficients
abbrev pub LineTotal : Type 1
LineTotal = (base stride n m coefs scratch : ℕ)
    → Total (line_answer base stride n m coefs scratch) (
    refuse_unless 2 (4 ≤ n)
    ∷ refuse_unless 2 ((n ≤ m) × (m + n ≤ scratch))
    ∷ refuse_unless 2 (on_line base stride (n - 1) < coefs)
    ∷ [])
