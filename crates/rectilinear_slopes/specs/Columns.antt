-- Weights and derivatives side by side, as the code works them out. Inner: what functions of the library promise each other; a
-- caller has no use for it. Assumes nothing.
use Rattle.std.specs.Prelude.{List, [], ◌∷◌, ℕ, zero, suc, Float}
use Rattle.std.specs.Float.{Format}
use Rattle.std.specs.Float.Ieee.{add, mul}
use Rattle.multibspline.specs.Numbers.{f0}
use Rattle.multibspline.specs.Thomas.{at}
use Rattle.rectilinear_slopes.specs.Slopes.{column}

-- the values of each of the four weights
abbrev pub columns : List (List Float) → List (List Float)
columns rows = column rows 0 ∷ column rows 1 ∷ column rows 2 ∷ column rows 3 ∷ []

-- the sum of the values times the derivatives of the basis polynomials, which stand in a list: they do not depend on the values
abbrev pub derivative_by : Format → List Float → List Float → ℕ → Float
derivative_by f ds ys zero = f0
derivative_by f ds ys (suc j) = add f (derivative_by f ds ys j) (mul f (at ys j) (at ds j))
