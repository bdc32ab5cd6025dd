-- What `solve_line` answers and leaves. The line is n cells of coefs, from base, stride apart; scratch has the upper numbers
-- from 0 on and the right sides from m on. Assumes nothing.
use Rattle.std.specs.Prelude.{List, ℕ, length, Float}
use Rattle.std.specs.Float.{Format, nan}
use Rattle.shape.specs.Cells.{line, write_line}
use Rattle.shape.specs.Fit.{line_scratch, Fitted}
use Rattle.multibspline.specs.Line.{line_answer}
use Rattle.regular_lines.specs.Rows.{coefficient, upper_number}

-- an accepted line's samples are replaced by its coefficients
abbrev pub LineSolved : Format → ℕ → ℕ → ℕ → ℕ → List Float → List Float → ℕ → List Float → List Float → Type 0
LineSolved f base stride n m coefs scratch answer coefs' scratch' =
    Fitted (line_answer base stride n m (length coefs) (length scratch))
    (write_line base stride (coefficient f n (line nan base stride coefs)) n coefs)
    (line_scratch m (upper_number f n (line nan base stride coefs)) (coefficient f n (line nan base stride coefs)) n scratch)
    coefs scratch answer coefs' scratch'
