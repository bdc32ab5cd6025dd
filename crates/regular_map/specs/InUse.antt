-- Entries for axes not in use are not looked at: two maps that agree in the rest are the same to every call. Assumes nothing.
use Rattle.std.specs.Prelude.{◌≡◌, List, ℕ, ◌<◌, length, get_or, Float}
use Rattle.std.specs.Float.{Format, nan}
use Rattle.regular_blocks.specs.Map.{RegularMap}
use Rattle.regular_blocks.specs.Checks.{regular}

-- of two maps with as many entries as each other: the axis count, the flag, and the entries for the axes in use
pub record SameInUse (m m' : RegularMap) : Type 0 where
  pub count : m.count ≡ m'.count
  pub linear : m.linear ≡ m'.linear
  pub lens : (a : ℕ) → a < m.count → get_or m.lens a 0 ≡ get_or m'.lens a 0
  pub starts : (a : ℕ) → a < m.count → get_or m.starts a nan ≡ get_or m'.starts a nan
  pub steps : (a : ℕ) → a < m.count → get_or m.steps a nan ≡ get_or m'.steps a nan
  pub as-many-lens : length m.lens ≡ length m'.lens
  pub as-many-steps : length m.steps ≡ length m'.steps

-- Every call on a map is stated by `regular`, and by nothing else of the map.
abbrev pub UnusedNotLookedAt : Type 0
UnusedNotLookedAt = (f : Format) (m m' : RegularMap) (coefs : List Float) → SameInUse m m' → regular f m coefs ≡ regular f m' coefs
