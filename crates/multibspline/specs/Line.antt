-- When `solve_line` accepts a line, on either grid. The line is n cells of the coefficients, from base, stride apart; scratch
-- has the upper numbers from 0 on and the right sides from m on. Assumes nothing.
--     coefs, scratch   the lengths of the buffers
use Rattle.std.specs.Prelude.{not, ◌||◌, List, [], ◌∷◌, ℕ, ◌+◌, ◌-◌, ltb}
use Rattle.shape.specs.Cells.{on_line}
use Rattle.shape.specs.Checks.{Check, refuse, first_refusal}

-- a short line, no room for n upper numbers or n right sides, a line that does not end within the coefficients
abbrev pub line_checks : ℕ → ℕ → ℕ → ℕ → ℕ → ℕ → List Check
line_checks base stride n m coefs scratch =
    refuse 2 (ltb n 4)
    ∷ refuse 2 (ltb m n || ltb scratch (m + n))
    ∷ refuse 2 (not (ltb (on_line base stride (n - 1)) coefs))
    ∷ []

unfoldable pub line_answer : ℕ → ℕ → ℕ → ℕ → ℕ → ℕ → ℕ
line_answer base stride n m coefs scratch = first_refusal (line_checks base stride n m coefs scratch)
