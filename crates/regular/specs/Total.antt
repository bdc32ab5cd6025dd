-- Demand 1 for the regular fit. Assumes nothing.
--     count, lens              the axis count and the four lengths
--     samples, coefs, scratch  the lengths of the buffers
use Rattle.std.specs.Prelude.{◌≡◌, List, [], ◌∷◌, ◌++◌, ℕ, length, take}
use Rattle.shape.specs.Shape.{size}
use Rattle.shape.specs.Checks.{first_refusal, regular_fit_checks}
use Rattle.shape.specs.Outcome.{Condition, Total, shape_conditions, length_condition, scratch_condition}

-- the shape, the coefficients, the samples, scratch
abbrev pub fit_conditions : ℕ → List ℕ → ℕ → ℕ → ℕ → List Condition
fit_conditions count lens samples coefs scratch =
    let dims = take count lens in
    shape_conditions count lens ++ (length_condition (size dims) coefs ∷ length_condition (size dims) samples ∷ scratch_condition dims scratch ∷ [])

abbrev pub FitTotal : Type 1
FitTotal = (count : ℕ) (lens : List ℕ) (samples coefs scratch : ℕ) → length lens ≡ 4
    → Total (first_refusal (regular_fit_checks count lens samples coefs scratch)) (fit_conditions count lens samples coefs scratch)
