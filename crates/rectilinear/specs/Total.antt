-- Demand 1 for the rectilinear fit. Assumes nothing.
--     samples, coefs, scratch  the lengths of the buffers
use Rattle.std.specs.Prelude.{◌≡◌, true, List, [], ◌∷◌, ◌++◌, ℕ, ◌+◌, ◌<◌, length, take, get_or, Float}
use Rattle.std.specs.Float.Ieee.{lt}
use Rattle.std.specs.Float.{nan}
use Rattle.shape.specs.Shape.{size}
use Rattle.shape.specs.Checks.{first_refusal}
use Rattle.shape.specs.Outcome.{Condition, refuse_unless, Total, shape_conditions, length_condition, scratch_condition}
use Rattle.knots.specs.Joined.{total, knots_of}
use Rattle.rectilinear.specs.Fit.{rectilinear_fit_checks}

-- the knots of each axis rise: each is above the one before it
abbrev pub Rising : ℕ → List ℕ → List Float → Type 0
Rising count lens grid =
    (a : ℕ) → a < count → (i : ℕ) → i + 1 < length (knots_of grid (take count lens) a)
    → lt (get_or (knots_of grid (take count lens) a) i nan) (get_or (knots_of grid (take count lens) a) (i + 1) nan) ≡ true

-- of a joined grid: its length, and its knots
abbrev pub grid_condition : ℕ → List ℕ → List Float → Condition
grid_condition count lens grid = length_condition (total (take count lens)) (length grid)

abbrev pub knots_condition : ℕ → List ℕ → List Float → Condition
knots_condition count lens grid = refuse_unless 5 (Rising count lens grid)

-- the shape, the joined grid, the coefficients, the knots, the samples, scratch
abbrev pub fit_conditions : ℕ → List ℕ → List Float → ℕ → ℕ → ℕ → List Condition
fit_conditions count lens grid samples coefs scratch =
    let dims = take count lens in
    shape_conditions count lens
    ++ (grid_condition count lens grid
    ∷ length_condition (size dims) coefs
    ∷ knots_condition count lens grid
    ∷ length_condition (size dims) samples
    ∷ scratch_condition dims scratch
    ∷ [])

abbrev pub FitTotal : Type 1
FitTotal = (count : ℕ) (lens : List ℕ) (grid : List Float) (samples coefs scratch : ℕ) → length lens ≡ 4
    → Total (first_refusal (rectilinear_fit_checks count lens grid samples coefs scratch)) (fit_conditions count lens grid samples coefs scratch)
