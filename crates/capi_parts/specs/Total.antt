-- Demand 1 for the calls from C, whose shape is `lens_of dims`: those of the library, and the length of a regular grid besides.
-- Assumes nothing.
--     samples, coefs, scratch, slopes  the lengths of the buffers
use Rattle.std.specs.Prelude.{Bool, List, [], ◌∷◌, ◌++◌, ℕ, ◌*◌, length, take, Float}
use Rattle.std.specs.Float.{Format}
use Rattle.shape.specs.Shape.{size}
use Rattle.shape.specs.Checks.{first_refusal, shape_checks, regular_fit_checks}
use Rattle.shape.specs.Sizes.{first_cell_answer}
use Rattle.shape.specs.Outcome.{Condition, refuse_unless, Total, shape_conditions, length_condition, scratch_condition, line_condition}
use Rattle.knots.specs.Checks.{grid_check, knots_check}
use Rattle.evaluation.specs.Axes.{query}
use Rattle.evaluation.specs.Spline.{Spline, one_answer}
use Rattle.evaluation.specs.Total.{EvaluationTotal}
use Rattle.regular.specs.Total as Regular
use Rattle.rectilinear.specs.Fit.{rectilinear_fit_checks}
use Rattle.rectilinear.specs.Total as Rectilinear
use Rattle.stepwise.specs.Total.{StepsTotal}
use Rattle.regular_map.specs.Total.{steps_condition, Representable}
use Rattle.rectilinear_blocks.specs.Eval.{map_answer}
use Rattle.rectilinear_map.specs.Total.{map_conditions, HasPlace}
use Rattle.capi_parts.specs.Inputs.{lens_of}
use Rattle.capi_parts.specs.Splines.{with_slopes}
use Rattle.capi_parts.specs.Regular.{steps_of, regular_map, regular_checks, regular_spline, grid_from_values_answer}
use Rattle.capi_parts.specs.Rectilinear.{rectilinear_spline}

-- ---- the shape

pub record ShapeTotal (dims : List ℕ) : Type 1 where
  pub check : Total (first_refusal (shape_checks (length dims) (lens_of dims))) (shape_conditions (length dims) (lens_of dims))
  pub first_cell : (a l : ℕ)
      → Total (first_cell_answer (length dims) (lens_of dims) a l) (shape_conditions (length dims) (lens_of dims) ++ line_condition (take (length dims) (lens_of dims)) a l ∷ [])

-- ---- a map on either grid: values and gradients; a single gradient also wants a slope for each axis

pub record SplineTotal (s : Spline) (map : List Condition) (HasPlace : List Float → Type 0) : Type 1 where
  pub evaluation : EvaluationTotal s map HasPlace
  pub gradient : (slopes : ℕ) (x : List Float)
      → Total (one_answer (with_slopes slopes s) x) (
      map
      ++ (length_condition s.axes slopes
      ∷ length_condition s.axes (length x)
      ∷ refuse_unless 6 (HasPlace (query s.axes x 1 0))
      ∷ []))

-- ---- regular grids

-- a start and a step for each axis
abbrev pub grid_condition : List ℕ → List Float → Condition
grid_condition dims grid = length_condition (2 * length dims) (length grid)

-- of a map: the shape, the grid, the coefficients, the steps
abbrev pub regular_conditions : List ℕ → List Float → ℕ → List Condition
regular_conditions dims grid coefs =
    shape_conditions (length dims) (lens_of dims)
    ++ (grid_condition dims grid
    ∷ length_condition (size (take (length dims) (lens_of dims))) coefs
    ∷ steps_condition (length dims) (steps_of dims grid)
    ∷ [])

pub record RegularTotal (dims : List ℕ) : Type 1 where
  pub fit : (samples coefs scratch : ℕ)
      → Total (first_refusal (regular_fit_checks (length dims) (lens_of dims) samples coefs scratch)) (Regular.fit_conditions (length dims) (lens_of dims) samples coefs scratch)
  pub check : (grid : List Float) (coefs : ℕ) → Total (first_refusal (regular_checks dims grid coefs)) (regular_conditions dims grid coefs)
  -- the fit, then the steps
  pub from-values : (grid : List Float) (samples coefs scratch : ℕ)
      → Total (grid_from_values_answer dims grid samples coefs scratch) (
      shape_conditions (length dims) (lens_of dims)
      ++ (grid_condition dims grid
      ∷ length_condition (size (take (length dims) (lens_of dims))) coefs
      ∷ length_condition (size (take (length dims) (lens_of dims))) samples
      ∷ scratch_condition (take (length dims) (lens_of dims)) scratch
      ∷ steps_condition (length dims) (steps_of dims grid)
      ∷ []))
  pub spline : (f : Format) (grid : List Float) (linear : Bool) (coefs : List Float)
      → SplineTotal (regular_spline f dims grid linear coefs) (regular_conditions dims grid (length coefs)) (Representable f (regular_map dims grid linear))
  pub steps : StepsTotal (length dims) (lens_of dims) [] [] [] []

-- ---- rectilinear grids

pub record RectilinearTotal (dims : List ℕ) (grid : List Float) : Type 1 where
  pub fit : (samples coefs scratch : ℕ)
      → Total (first_refusal (rectilinear_fit_checks (length dims) (lens_of dims) grid samples coefs scratch))
      (Rectilinear.fit_conditions (length dims) (lens_of dims) grid samples coefs scratch)
  pub check : (coefs : ℕ) → Total (map_answer (length dims) (lens_of dims) grid coefs) (map_conditions (length dims) (lens_of dims) grid coefs)
  pub spline : (f : Format) (linear : Bool) (coefs : List Float)
      → SplineTotal (rectilinear_spline f dims grid linear coefs) (map_conditions (length dims) (lens_of dims) grid (length coefs)) HasPlace
  pub steps :
      StepsTotal (length dims) (lens_of dims) (grid_check (take (length dims) (lens_of dims)) grid) (knots_check (take (length dims) (lens_of dims)) grid)
      (Rectilinear.grid_condition (length dims) (lens_of dims) grid ∷ []) (Rectilinear.knots_condition (length dims) (lens_of dims) grid ∷ [])
