-- Demand 1 for the calls on a rectilinear map. Building from samples is refused as the fit is (rectilinear/specs/Total.antt).
-- Assumes nothing.
use Rattle.std.specs.Prelude.{◌≡◌, List, [], ◌∷◌, ◌++◌, ℕ, ◌<◌, length, take, Float}
use Rattle.std.specs.Float.{Format}
use Rattle.shape.specs.Shape.{size}
use Rattle.shape.specs.Checks.{first_refusal}
use Rattle.shape.specs.Outcome.{Condition, refuse_unless, Total, shape_conditions, length_condition}
use Rattle.rectilinear.specs.Total.{grid_condition, knots_condition}
use Rattle.evaluation.specs.Total.{EvaluationTotal}
use Rattle.rectilinear_blocks.specs.Map.{RectilinearMap}
use Rattle.rectilinear_blocks.specs.Eval.{grid_answer, map_answer, rectilinear}
use Rattle.rectilinear_map.specs.Place.{rectilinear_place_checks}

-- of a map: the shape, the joined grid, the coefficients, the knots
abbrev pub map_conditions : ℕ → List ℕ → List Float → ℕ → List Condition
map_conditions count lens grid coefs =
    shape_conditions count lens ++ (grid_condition count lens grid ∷ length_condition (size (take count lens)) coefs ∷ knots_condition count lens grid ∷ [])

-- every query has a place
abbrev pub HasPlace : List Float → Type 0
HasPlace x = Unit {0}

-- building from a grid alone
abbrev pub GridTotal : Type 1
GridTotal = (count : ℕ) (lens : List ℕ) (grid : List Float) → length lens ≡ 4
    → Total (grid_answer count lens grid) (shape_conditions count lens ++ grid_condition count lens grid ∷ [])

-- building, and the checks of every call
abbrev pub MapTotal : Type 1
MapTotal = (count : ℕ) (lens : List ℕ) (grid : List Float) (coefs : ℕ) → length lens ≡ 4
    → Total (map_answer count lens grid coefs) (map_conditions count lens grid coefs)

-- values and gradients, single and in batches
abbrev pub RectilinearTotal : Type 1
RectilinearTotal = (f : Format) (m : RectilinearMap) (grid coefs : List Float) → length m.lens ≡ 4
    → EvaluationTotal (rectilinear f m grid coefs) (map_conditions m.count m.lens grid (length coefs)) HasPlace

-- the place of a coordinate on an axis: the shape, the joined grid, the knots, the axis
abbrev pub PlaceTotal : Type 1
PlaceTotal = (count : ℕ) (lens : List ℕ) (grid : List Float) (a : ℕ) → length lens ≡ 4
    → Total (first_refusal (rectilinear_place_checks count lens grid a)) (
    shape_conditions count lens
    ++ (grid_condition count lens grid
    ∷ knots_condition count lens grid
    ∷ refuse_unless 7 (a < count)
    ∷ []))
