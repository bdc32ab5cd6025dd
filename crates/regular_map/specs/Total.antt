-- Demand 1 for the calls on a regular map. Assumes nothing.
use Rattle.std.specs.Prelude.{◌≡◌, true, ◌≢◌, List, [], ◌∷◌, ◌++◌, ℕ, ◌<◌, length, take, get_or, Float}
use Rattle.std.specs.Float.{Format, nan}
use Rattle.std.specs.Float.Ieee.{lt}
use Rattle.shape.specs.Shape.{size}
use Rattle.shape.specs.Checks.{first_refusal}
use Rattle.shape.specs.Outcome.{Condition, refuse_unless, Total, shape_conditions, length_condition}
use Rattle.multibspline.specs.Numbers.{f0}
use Rattle.regular.specs.Total.{fit_conditions}
use Rattle.regular_weights.specs.Place.{unrepresentable}
use Rattle.evaluation.specs.Total.{EvaluationTotal}
use Rattle.regular_blocks.specs.Map.{RegularMap}
use Rattle.regular_blocks.specs.Eval.{loc_on}
use Rattle.regular_blocks.specs.Checks.{map_answer, from_values_answer, regular}
use Rattle.regular_map.specs.Place.{loc_at, regular_place_checks}

-- every step in use is above zero
abbrev pub steps_condition : ℕ → List Float → Condition
steps_condition count steps = refuse_unless 5 ((a : ℕ) → a < count → lt f0 (get_or steps a nan) ≡ true)

-- every axis in use has a representable cell for the query
abbrev pub Representable : Format → RegularMap → List Float → Type 0
Representable f m x = (a : ℕ) → a < m.count → loc_on f m x a ≢ unrepresentable

-- of a map: the shape, the coefficients, the steps
abbrev pub map_conditions : ℕ → List ℕ → List Float → ℕ → List Condition
map_conditions count lens steps coefs = shape_conditions count lens ++ (length_condition (size (take count lens)) coefs ∷ steps_condition count steps ∷ [])

-- building, and the checks of every call
abbrev pub MapTotal : Type 1
MapTotal = (count : ℕ) (lens : List ℕ) (steps : List Float) (coefs : ℕ) → length lens ≡ 4 → length steps ≡ 4
    → Total (map_answer count lens steps coefs) (map_conditions count lens steps coefs)

-- building from samples: the fit, then the steps
abbrev pub FromValuesTotal : Type 1
FromValuesTotal = (count : ℕ) (lens : List ℕ) (steps : List Float) (samples coefs scratch : ℕ) → length lens ≡ 4 → length steps ≡ 4
    → Total (from_values_answer count lens steps samples coefs scratch) (fit_conditions count lens samples coefs scratch ++ steps_condition count steps ∷ [])

-- values and gradients, single and in batches
abbrev pub RegularTotal : Type 1
RegularTotal = (f : Format) (m : RegularMap) (coefs : List Float) → length m.lens ≡ 4 → length m.steps ≡ 4
    → EvaluationTotal (regular f m coefs) (map_conditions m.count m.lens m.steps (length coefs)) (Representable f m)

-- the place of a coordinate on an axis: the shape, the steps, the axis, a representable cell
abbrev pub PlaceTotal : Type 1
PlaceTotal = (f : Format) (count : ℕ) (lens : List ℕ) (starts steps : List Float) (a : ℕ) (x : Float) → length lens ≡ 4 → length steps ≡ 4
    → Total (first_refusal (regular_place_checks f count lens starts steps a x)) (
    shape_conditions count lens
    ++ (steps_condition count steps
    ∷ refuse_unless 7 (a < count)
    ∷ refuse_unless 6 (loc_at f lens starts steps a x ≢ unrepresentable)
    ∷ []))
