-- A regular map at a query x, axis by axis, each operation rounded to the format f. Assumes nothing.
use Rattle.std.specs.Prelude.{Option, List, ℕ, get_or, Float}
use Rattle.std.specs.Float.{nan, Format}
use Rattle.regular_weights.specs.Place.{get_loc}
use Rattle.regular_weights.specs.declared.place.Loc.{Loc}
use Rattle.evaluation.specs.ByAxis.{ByAxis}
use Rattle.regular_axis.specs.Axis.{is_unrepresentable, origin_at, weights_at, slopes_at}
use Rattle.regular_blocks.specs.Map.{RegularMap}

-- ---- a map

module _ (f : Format) (m : RegularMap) (x : List Float) (a : ℕ) where
  -- the place on axis a
  unfoldable pub loc_on : Option Loc
  loc_on = get_loc f (get_or m.lens a 0) (get_or m.starts a nan) (get_or m.steps a nan) (get_or x a nan)

  -- the weights of axis a, and its slopes
  unfoldable pub weights_on : List Float
  weights_on = weights_at f (get_or m.starts a nan) (get_or m.steps a nan) m.linear (get_or x a nan) loc_on

  unfoldable pub slopes_on : List Float
  slopes_on = slopes_at f (get_or m.starts a nan) (get_or m.steps a nan) m.linear (get_or x a nan) loc_on

-- the map, axis by axis
abbrev pub regular_axes : Format → RegularMap → ByAxis
regular_axes f m = record {
  count = m.count;
  lens = m.lens;
  no_place = λ x a. is_unrepresentable (loc_on f m x a);
  origin = λ x a. origin_at (loc_on f m x a);
  weights = weights_on f m;
  slopes = slopes_on f m;
}
