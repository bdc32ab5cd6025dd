-- Entries for axes not in use are not looked at: two maps that agree in the rest are the same to every call. Assumes nothing.
use Rattle.std.specs.Prelude.{◌≡◌, List, [], ℕ, ◌<◌, length, get_or, Float}
use Rattle.std.specs.Float.{Format}
use Rattle.rectilinear_blocks.specs.Map.{RectilinearMap}
use Rattle.rectilinear_blocks.specs.Eval.{rectilinear}

-- of two maps with as many lengths as each other: the axis count, the flag, and the entries for the axes in use
pub record SameInUse (m m' : RectilinearMap) : Type 0 where
  pub count : m.count ≡ m'.count
  pub linear : m.linear ≡ m'.linear
  pub lens : (a : ℕ) → a < m.count → get_or m.lens a 0 ≡ get_or m'.lens a 0
  pub low : (a : ℕ) → a < m.count → get_or m.low a [] ≡ get_or m'.low a []
  pub high : (a : ℕ) → a < m.count → get_or m.high a [] ≡ get_or m'.high a []
  pub as-many-lens : length m.lens ≡ length m'.lens

-- Every call on a map is stated by `rectilinear`, and by nothing else of the map.
abbrev pub UnusedNotLookedAt : Type 0
UnusedNotLookedAt = (f : Format) (m m' : RectilinearMap) (grid coefs : List Float) → SameInUse m m' → rectilinear f m grid coefs ≡ rectilinear f m' grid coefs
