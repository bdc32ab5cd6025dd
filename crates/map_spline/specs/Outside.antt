-- Whether a query is outside: some axis in use has an Outside place for it. Assumes nothing.
--     count, lens    the axis count and the lengths of the axes
use Rattle.std.specs.Prelude.{Option, Some, None, Bool, true, false, List, ℕ, get_or, Float}
use Rattle.std.specs.Float.{Format, nan}
use Rattle.shape.specs.Below.{any_below}
use Rattle.multibspline.specs.declared.saturation.Saturation.{Saturation}
use Rattle.multibspline.specs.declared.saturation.Saturation.TheVariants as Place
use Rattle.regular_weights.specs.declared.place.Loc.{Loc}
use Rattle.regular_map.specs.Place as Regular
use Rattle.rectilinear_map.specs.Place as Rectilinear

abbrev pub is_outside : Saturation → Bool
is_outside Place.None = false
is_outside Place.InsideLow = false
is_outside Place.OutsideLow = true
is_outside Place.InsideHigh = false
is_outside Place.OutsideHigh = true

-- a cell that cannot be represented has no place
abbrev pub is_outside_loc : Option Loc → Bool
is_outside_loc (Some loc) = is_outside loc.sat
is_outside_loc None = false

-- axis a of a regular map, and of a rectilinear one
unfoldable pub regular_axis_outside : Format → List ℕ → List Float → List Float → List Float → ℕ → Bool
regular_axis_outside f lens starts steps x a = is_outside_loc (Regular.loc_at f lens starts steps a (get_or x a nan))

unfoldable pub rectilinear_axis_outside : ℕ → List ℕ → List Float → List Float → ℕ → Bool
rectilinear_axis_outside count lens grid x a = is_outside (Rectilinear.loc_at count lens grid a (get_or x a nan)).sat

-- an axis of a map on either grid, by what it says of a coordinate
abbrev pub axis_outside : (ℕ → Float → Bool) → List Float → ℕ → Bool
axis_outside on x a = on a (get_or x a nan)

-- the query
abbrev pub regular_outside : Format → ℕ → List ℕ → List Float → List Float → List Float → Bool
regular_outside f count lens starts steps x = any_below (regular_axis_outside f lens starts steps x) count

abbrev pub rectilinear_outside : ℕ → List ℕ → List Float → List Float → Bool
rectilinear_outside count lens grid x = any_below (rectilinear_axis_outside count lens grid x) count
