-- The fit on a grid whose axis a has the system `rows a`. For contracts inside the library. Assumes nothing.
use Rattle.std.specs.Prelude.{◌≡◌, List, ℕ, ◌*◌, ◌≤◌, length, Float}
use Rattle.std.specs.Float.{Format, nan}
use Rattle.shape.specs.Shape.{longest, size}
use Rattle.shape.specs.Fit as Axes
use Rattle.lines.specs.Rows.{Rows, coefficient, upper_number}

-- a line of axis a, solved: from its samples y, coefficient i, and upper number i of its elimination
abbrev pub solve : Format → (ℕ → Rows) → ℕ → (ℕ → Float) → ℕ → Float
solve f rows a = coefficient f (rows a)

abbrev pub upper : Format → (ℕ → Rows) → ℕ → (ℕ → Float) → ℕ → Float
upper f rows a = upper_number f (rows a)

-- the coefficients of a map, and what the fit leaves in scratch
abbrev pub fitted : Format → (ℕ → Rows) → List ℕ → List Float → List Float
fitted f rows dims samples = Axes.fit nan (solve f rows) dims samples

abbrev pub left_in_scratch : Format → (ℕ → Rows) → List ℕ → List Float → List Float → List Float
left_in_scratch f rows dims samples scratch =
    Axes.scratch_after_axes nan (upper f rows) (solve f rows) dims (length dims) samples scratch

-- a coefficient a point, and scratch for the longest axis, by the lengths of the buffers
abbrev pub FitRoom : List ℕ → ℕ → ℕ → Type 0
FitRoom dims coefs scratch = (coefs ≡ size dims) × (2 * longest dims ≤ scratch)
