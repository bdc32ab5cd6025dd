-- A regular map by its parts, for any format. Assumes nothing.
use Rattle.std.specs.Prelude.{Bool, List, ℕ, Float}

-- axis count and four lengths; the first point and the distance of two points on each axis; whether the map goes on in a
-- straight line outside its grid
pub record RegularMap : Type 0 where
  pub count : ℕ
  pub lens : List ℕ
  pub starts : List Float
  pub steps : List Float
  pub linear : Bool

abbrev pub map_from : ℕ → List ℕ → List Float → List Float → Bool → RegularMap
map_from count lens starts steps linear = record { count = count; lens = lens; starts = starts; steps = steps; linear = linear }
