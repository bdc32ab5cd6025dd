-- The place of a coordinate x on axis a of a rectilinear map, and what `place` answers. Assumes nothing.
use Rattle.std.specs.Prelude.{Result, List, [], ◌++◌, ℕ, take, Float}
use Rattle.shape.specs.Refusal.{answer_number, answer_or}
use Rattle.shape.specs.declared.answers.Refusal.{Refusal}
use Rattle.shape.specs.Checks.{Check, shape_checks}
use Rattle.multibspline.specs.declared.saturation.Saturation.TheVariants.{None}
use Rattle.knots.specs.Joined.{knots_of}
use Rattle.knots.specs.Checks.{grid_check, knots_check}
use Rattle.knots.specs.Place.{loc, get_loc}
use Rattle.knots.specs.declared.place.Loc.{Loc}
use Rattle.evaluation.specs.Place.{place_checks, PlaceFound}

-- the place, by the knots of the axis
abbrev pub loc_at : ℕ → List ℕ → List Float → ℕ → Float → Loc
loc_at count lens grid a x = get_loc (knots_of grid (take count lens) a) x

-- the checks of a record with its joined grid: the shape, the grid's length, the knots of the axes in use
abbrev pub grid_checks : ℕ → List ℕ → List Float → List Check
grid_checks count lens grid = shape_checks count lens ++ (grid_check (take count lens) grid ++ knots_check (take count lens) grid)

-- what stands for the place of a call that is refused
abbrev pub no_place : Loc
no_place = loc None 0 0

-- every coordinate has a place
abbrev pub rectilinear_place_checks : ℕ → List ℕ → List Float → ℕ → List Check
rectilinear_place_checks count lens grid a = place_checks (grid_checks count lens grid) count a []

abbrev pub RectilinearPlaced : ℕ → List ℕ → List Float → ℕ → Float → Result Loc Refusal → Type 0
RectilinearPlaced count lens grid a x r = PlaceFound (rectilinear_place_checks count lens grid a) (loc_at count lens grid a x) no_place (answer_number r) (answer_or no_place r)
