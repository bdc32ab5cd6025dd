-- A rectilinear map at a query x, axis by axis, each operation rounded to the format f, and what the calls on it check. Assumes
-- nothing.
use Rattle.std.specs.Prelude.{false, List, [], ◌++◌, ℕ, length, take, get_or, Float}
use Rattle.std.specs.Float.{nan, Format}
use Rattle.shape.specs.Shape.{size}
use Rattle.shape.specs.Checks.{Check, first_refusal, shape_checks, length_check}
use Rattle.knots.specs.Joined.{knots_of}
use Rattle.knots.specs.Place.{get_loc}
use Rattle.knots.specs.declared.place.Loc.{Loc}
use Rattle.rectilinear_weights.specs.Weights.{interp_weights, interp_weight_derivatives}
use Rattle.knots.specs.Checks.{grid_check, knots_check}
use Rattle.evaluation.specs.Spline.{Spline}
use Rattle.evaluation.specs.ByAxis.{ByAxis, spline_of}
use Rattle.rectilinear_blocks.specs.Map.{RectilinearMap}

-- ---- one axis

-- the knots of axis a, and the place there
abbrev pub knots_on : ℕ → List ℕ → List Float → ℕ → List Float
knots_on count lens grid a = knots_of grid (take count lens) a

unfoldable pub loc_on : ℕ → List ℕ → List Float → List Float → ℕ → Loc
loc_on count lens grid x a = get_loc (knots_on count lens grid a) (get_or x a nan)

-- the weights of axis a, and its slopes
module _ (f : Format) (m : RectilinearMap) (grid x : List Float) (a : ℕ) where
  unfoldable pub weights_on : List Float
  weights_on =
      let loc = loc_on m.count m.lens grid x a in
      interp_weights f (knots_on m.count m.lens grid a) (get_or m.low a []) (get_or m.high a []) m.linear loc.span (get_or x a nan) loc.sat

  unfoldable pub slopes_on : List Float
  slopes_on =
      let loc = loc_on m.count m.lens grid x a in
      interp_weight_derivatives f (knots_on m.count m.lens grid a) (get_or m.low a []) (get_or m.high a []) m.linear loc.span (get_or x a nan) loc.sat

-- ---- a map

-- the map, axis by axis: every query has a place on every axis
abbrev pub rectilinear_axes : Format → RectilinearMap → List Float → ByAxis
rectilinear_axes f m grid = record {
  count = m.count;
  lens = m.lens;
  no_place = λ x a. false;
  origin = λ x a. (loc_on m.count m.lens grid x a).origin;
  weights = weights_on f m grid;
  slopes = slopes_on f m grid;
}

-- building from a grid alone: the record, the joined grid's length
unfoldable pub grid_answer : ℕ → List ℕ → List Float → ℕ
grid_answer count lens grid = first_refusal (shape_checks count lens ++ grid_check (take count lens) grid)

-- building, and every evaluation: the record, the joined grid's length, that of the coefficients, the knots
abbrev pub map_checks : ℕ → List ℕ → List Float → ℕ → List Check
map_checks count lens grid coefs =
    let dims = take count lens in
    shape_checks count lens ++ (grid_check dims grid ++ (length_check (size dims) coefs ++ knots_check dims grid))

unfoldable pub map_answer : ℕ → List ℕ → List Float → ℕ → ℕ
map_answer count lens grid coefs = first_refusal (map_checks count lens grid coefs)

-- the map as the calls that evaluate it see it
abbrev pub rectilinear : Format → RectilinearMap → List Float → List Float → Spline
rectilinear f m grid coefs = spline_of f (rectilinear_axes f m grid) (map_checks m.count m.lens grid (length coefs)) coefs
