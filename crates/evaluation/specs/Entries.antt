-- What the functions behind the checks of a call answer and leave, on either grid. Inner: what functions of the library promise
-- each other; a caller has no use for it. Assumes nothing.
use Rattle.std.specs.Prelude.{◌≡◌, Bool, cond, List, ℕ, Float, ltb}
use Rattle.multibspline.specs.Numbers.{f0}
use Rattle.evaluation.specs.Axes.{zeros}
use Rattle.evaluation.specs.Spline.{Spline, gradient}
use Rattle.evaluation.specs.Batch.{before, written, bad_at, value_step, gradient_step}

-- a single query whose lengths are right: its figures, or 6
pub record Answered (s : Spline) (x : List Float) (answer : ℕ) (value : Float) : Type 0 where
  pub answers : answer ≡ cond (s.refuses x) 6 0
  pub valued : value ≡ cond (s.refuses x) f0 (s.value x)

pub record GradientAnswered (s : Spline) (x : List Float) (answer : ℕ) (parts : List Float) : Type 0 where
  pub answers : answer ≡ cond (s.refuses x) 6 0
  pub gradient : parts ≡ cond (s.refuses x) zeros (gradient s x)

-- the entries of a batch, up to the first bad one
pub record Entries (bad : ℕ → Bool) (step : ℕ → List Float → List Float) (n : ℕ) (out : List Float) (answer : ℕ) (out' : List Float) : Type 0 where
  pub answers : answer ≡ cond (ltb (before bad n) n) 6 0
  pub leaves : out' ≡ written step (before bad n) out

-- of n queries on a map: values, and gradients
abbrev pub ValueEntries : Spline → List Float → ℕ → List Float → ℕ → List Float → Type 0
ValueEntries s xs n out answer out' = Entries (bad_at s xs n) (value_step s xs n) n out answer out'

abbrev pub GradientEntries : Spline → List Float → ℕ → List Float → ℕ → List Float → Type 0
GradientEntries s xs n out answer out' = Entries (bad_at s xs n) (gradient_step s xs n) n out answer out'
