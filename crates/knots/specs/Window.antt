-- How many knots are below x, told by a window. Inner: what functions of the library promise each other; a caller has no use for
-- it. Assumes nothing.
use Rattle.std.specs.Prelude.{◌≡◌, true, false, List, ℕ, ◌≤◌, ◌<◌, length, get_or, Float}
use Rattle.std.specs.Float.{nan}
use Rattle.std.specs.Float.Ieee.{lt}

-- in a search for that count: the knots before low are below x, those from high on are not
pub record Between (ks : List Float) (x : Float) (low high : ℕ) : Type 0 where
  pub low-high : low ≤ high
  pub high_end : high ≤ length ks
  pub below : (i : ℕ) → i < low → lt (get_or ks i nan) x ≡ true
  pub not-below : (i : ℕ) → high ≤ i → i < length ks → lt (get_or ks i nan) x ≡ false
