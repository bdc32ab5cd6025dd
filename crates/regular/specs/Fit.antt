-- What `coefficients` answers and leaves, for a regular map of the axes `take count lens`. Assumes nothing.
use Rattle.std.specs.Prelude.{List, ℕ, length, take, Float}
use Rattle.std.specs.Float.{Format, nan}
use Rattle.shape.specs.Shape.{points}
use Rattle.shape.specs.Fit as Axes
use Rattle.shape.specs.Fit.{Fitted, FitLeaves}
use Rattle.shape.specs.Checks.{first_refusal, regular_fit_checks}
use Rattle.regular_lines.specs.Rows.{coefficient, upper_number}

-- a line of axis a, solved: from its samples y, coefficient i, and upper number i of its elimination
abbrev pub solve : Format → List ℕ → ℕ → (ℕ → Float) → ℕ → Float
solve f dims a = coefficient f (points dims a)

abbrev pub upper : Format → List ℕ → ℕ → (ℕ → Float) → ℕ → Float
upper f dims a = upper_number f (points dims a)

-- the coefficients of a regular map, and what the fit leaves in scratch
abbrev pub regular_fit : Format → List ℕ → List Float → List Float
regular_fit f dims samples = Axes.fit nan (solve f dims) dims samples

abbrev pub regular_scratch : Format → List ℕ → List Float → List Float → List Float
regular_scratch f dims samples scratch = Axes.scratch_after_axes nan (upper f dims) (solve f dims) dims (length dims) samples scratch

-- a call's answer, and the coefficients and scratch after it
abbrev pub RegularFitted : Format → ℕ → List ℕ → List Float → List Float → List Float → ℕ → List Float → List Float → Type 0
RegularFitted f count lens samples coefs scratch answer coefs' scratch' =
    Fitted (first_refusal (regular_fit_checks count lens (length samples) (length coefs) (length scratch)))
    (regular_fit f (take count lens) samples)
    (regular_scratch f (take count lens) samples scratch)
    coefs scratch answer coefs' scratch'

-- the coefficients and scratch alone, for a call whose answer is not that of the fit
abbrev pub RegularFitLeaves : Format → ℕ → List ℕ → List Float → List Float → List Float → List Float → List Float → Type 0
RegularFitLeaves f count lens samples coefs scratch coefs' scratch' =
    FitLeaves (first_refusal (regular_fit_checks count lens (length samples) (length coefs) (length scratch)))
    (regular_fit f (take count lens) samples)
    (regular_scratch f (take count lens) samples scratch)
    coefs scratch coefs' scratch'
