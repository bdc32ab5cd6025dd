-- What `solve_line` answers and leaves on a rectilinear grid. The line is as many cells of coefs as there are knots, from base,
-- stride apart; scratch has the upper numbers from 0 on and the right sides from m on. Assumes nothing.
--     low, high   the ghost numbers of the two ends
use Rattle.std.specs.Prelude.{List, ℕ, length, Float}
use Rattle.std.specs.Float.{Format, nan}
use Rattle.shape.specs.Cells.{line, write_line}
use Rattle.shape.specs.Fit.{line_scratch, Fitted}
use Rattle.multibspline.specs.Line.{line_answer}
use Rattle.rectilinear_lines.specs.Rows.{coefficient, upper_number}

-- an accepted line's samples are replaced by its coefficients; a refusal changes nothing
abbrev pub LineSolved : Format → List Float → List Float → List Float → ℕ → ℕ → ℕ → List Float → List Float → ℕ → List Float → List Float → Type 0
LineSolved f ks low high base stride m coefs scratch answer coefs' scratch' =
    let y = line nan base stride coefs in
    Fitted (line_answer base stride (length ks) m (length coefs) (length scratch))
    (write_line base stride (coefficient f ks low high y) (length ks) coefs)
    (line_scratch m (upper_number f ks low high y) (coefficient f ks low high y) (length ks) scratch)
    coefs scratch answer coefs' scratch'
