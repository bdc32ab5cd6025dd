-- A NaN knot does not pass the increase check, wherever it stands. Assumes nothing.
use Rattle.std.specs.Prelude.{◌≡◌, false, List, ℕ, ◌≤◌, ◌<◌, length, get_or, Float}
use Rattle.std.specs.Float.{nan}
use Rattle.shape.specs.Checks.{first_refusal}
use Rattle.knots.specs.Knots.{rises}
use Rattle.knots.specs.Joined.{knots_of, all_rise}
use Rattle.knots.specs.Checks.{knots_check}

-- of at least two knots one is a NaN
pub record HasNan (ks : List Float) : Type 0 where
  pub two : 2 ≤ length ks
  pub at : ℕ
  pub within : at < length ks
  pub is-nan : get_or ks at nan ≡ nan

abbrev pub NanDoesNotRise : Type 0
NanDoesNotRise = (ks : List Float) → HasNan ks → rises ks ≡ false

-- of a joined grid: one such axis is enough, and the grid is refused with 5
pub record NanRefused (grid : List Float) (dims : List ℕ) : Type 0 where
  pub not-all-rise : all_rise grid dims (length dims) ≡ false
  pub refused : first_refusal (knots_check dims grid) ≡ 5

abbrev pub NanIsRefused : Type 0
NanIsRefused = (grid : List Float) (dims : List ℕ) (a : ℕ) → a < length dims → HasNan (knots_of grid dims a) → NanRefused grid dims
