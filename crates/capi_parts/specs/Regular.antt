-- A regular map as C hands it over: `dims`, and a grid of a start for each axis and then a step for each axis, which has a check
-- of its own, for its length. Assumes nothing.
use Rattle.std.specs.Prelude.{◌≡◌, Bool, List, [], ◌∷◌, ◌++◌, ℕ, ◌*◌, length, take, Float}
use Rattle.std.specs.Float.{Format}
use Rattle.shape.specs.Shape.{size}
use Rattle.shape.specs.Checks.{Check, refuse, first_refusal, fitting_checks, shape_checks, length_check}
use Rattle.shape.specs.Fit.{FitLeaves}
use Rattle.evaluation.specs.Spline.{Spline}
use Rattle.evaluation.specs.ByAxis.{spline_of}
use Rattle.regular.specs.Fit.{regular_fit, regular_scratch}
use Rattle.regular_blocks.specs.Map.{RegularMap}
use Rattle.regular_blocks.specs.Eval.{regular_axes}
use Rattle.regular_blocks.specs.Checks.{any_step_bad}
use Rattle.capi_parts.specs.Inputs.{lens_of, four_from}

-- the steps of the axes
abbrev pub steps_of : List ℕ → List Float → List Float
steps_of dims grid = four_from (length dims) grid

abbrev pub regular_map : List ℕ → List Float → Bool → RegularMap
regular_map dims grid linear = record {
  count = length dims;
  lens = lens_of dims;
  starts = four_from 0 grid;
  steps = steps_of dims grid;
  linear = linear;
}

-- the shape, then a start and a step for each axis
abbrev pub grid_ready_checks : List ℕ → List Float → List Check
grid_ready_checks dims grid = shape_checks (length dims) (lens_of dims) ++ length_check (2 * length dims) (length grid)

-- what every call that evaluates the map checks: then the coefficients, then the steps
abbrev pub regular_checks : List ℕ → List Float → ℕ → List Check
regular_checks dims grid coefs =
    grid_ready_checks dims grid ++ (length_check (size (take (length dims) (lens_of dims))) coefs ++ refuse 5 (any_step_bad (take (length dims) (steps_of dims grid))) ∷ [])

abbrev pub regular_spline : Format → List ℕ → List Float → Bool → List Float → Spline
regular_spline f dims grid linear coeffs = spline_of f (regular_axes f (regular_map dims grid linear)) (regular_checks dims grid (length coeffs)) coeffs

-- ---- the fit with a grid: its checks, with that of the grid's length in its place

abbrev pub fit_checks : List ℕ → List Float → ℕ → ℕ → ℕ → List Check
fit_checks dims grid samples coefs scratch =
    fitting_checks (length dims) (lens_of dims) (length_check (2 * length dims) (length grid)) [] coefs [] (samples ∷ []) scratch []

-- the fit, where its checks pass; then the steps are tested
abbrev pub grid_from_values_answer : List ℕ → List Float → ℕ → ℕ → ℕ → ℕ
grid_from_values_answer dims grid samples coefs scratch =
    first_refusal (fit_checks dims grid samples coefs scratch ++ refuse 5 (any_step_bad (take (length dims) (steps_of dims grid))) ∷ [])

pub record FromValues (f : Format) (dims : List ℕ) (grid samples coefs scratch : List Float) (answer : ℕ) (coefs' scratch' : List Float) : Type 0 where
  pub answers : answer ≡ grid_from_values_answer dims grid (length samples) (length coefs) (length scratch)
  pub fits :
      FitLeaves (first_refusal (fit_checks dims grid (length samples) (length coefs) (length scratch)))
      (regular_fit f (take (length dims) (lens_of dims)) samples)
      (regular_scratch f (take (length dims) (lens_of dims)) samples scratch)
      coefs scratch coefs' scratch'
