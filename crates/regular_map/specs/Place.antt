-- The place of a coordinate x on axis a of a regular map, and what `place` answers. Assumes nothing.
use Rattle.std.specs.Prelude.{Option, Result, Ok, Err, List, [], ◌∷◌, ◌++◌, ℕ, take, get_or, Float}
use Rattle.std.specs.Float.{Format, nan}
use Rattle.shape.specs.Refusal.{answer_number}
use Rattle.shape.specs.declared.answers.Refusal.{Refusal}
use Rattle.multibspline.specs.declared.saturation.Saturation.{Saturation}
use Rattle.shape.specs.Checks.{Check, refuse, shape_checks}
use Rattle.regular_weights.specs.Place.{at, unrepresentable, get_loc}
use Rattle.regular_weights.specs.declared.place.Loc.{Loc}
use Rattle.evaluation.specs.Place.{place_checks, PlaceFound}
use Rattle.regular_blocks.specs.Checks.{any_step_bad}
use Rattle.regular_axis.specs.Axis.{is_unrepresentable}

-- the place, by the points, the start and the step of the axis
abbrev pub loc_at : Format → List ℕ → List Float → List Float → ℕ → Float → Option Loc
loc_at f lens starts steps a x = get_loc f (get_or lens a 0) (get_or starts a nan) (get_or steps a nan) x

-- the checks of a record: its shape, the steps of the axes in use
abbrev pub record_checks : ℕ → List ℕ → List Float → List Check
record_checks count lens steps = shape_checks count lens ++ refuse 5 (any_step_bad (take count steps)) ∷ []

-- ---- the answer: the place, its saturation and its origin; a refused call has none

abbrev pub placed_loc : Result (Saturation × ℕ) Refusal → Option Loc
placed_loc (Ok place) = at place.0 place.1
placed_loc (Err refusal) = unrepresentable

abbrev pub regular_place_checks : Format → ℕ → List ℕ → List Float → List Float → ℕ → Float → List Check
regular_place_checks f count lens starts steps a x = place_checks (record_checks count lens steps) count a (refuse 6 (is_unrepresentable (loc_at f lens starts steps a x)) ∷ [])

abbrev pub RegularPlaced : Format → ℕ → List ℕ → List Float → List Float → ℕ → Float → Result (Saturation × ℕ) Refusal → Type 0
RegularPlaced f count lens starts steps a x r = PlaceFound (regular_place_checks f count lens starts steps a x) (loc_at f lens starts steps a x) unrepresentable (answer_number r) (placed_loc r)
