-- A rectilinear map by its parts, for any format. Assumes nothing.
use Rattle.std.specs.Prelude.{Bool, List, ℕ, Float}

-- axis count and four lengths; the ghost numbers of the low and of the high end of each axis, three an end; whether the map
-- goes on in a straight line outside its grid. The joined grid is lent beside it
pub record RectilinearMap : Type 0 where
  pub count : ℕ
  pub lens : List ℕ
  pub low : List (List Float)
  pub high : List (List Float)
  pub linear : Bool

abbrev pub map_from : ℕ → List ℕ → List (List Float) → List (List Float) → Bool → RectilinearMap
map_from count lens low high linear = record { count = count; lens = lens; low = low; high = high; linear = linear }
