-- What the calls that evaluate a map answer, on either grid: a single value, a single gradient, and the checks before the
-- entries of a batch. Assumes nothing.
use Rattle.std.specs.Prelude.{◌≡◌, Bool, cond, not, List, [], ◌∷◌, ◌++◌, ℕ, ◌*◌, ◌%◌, eqb, length, Float}
use Rattle.shape.specs.Checks.{Check, refuse, first_refusal, length_check}
use Rattle.multibspline.specs.Numbers.{f0}
use Rattle.evaluation.specs.Axes.{zeros, parts, query}

-- a map as the calls that evaluate it see it
pub record Spline : Type 0 where
  -- the axis count
  pub axes : ℕ
  -- the checks of the record, and of what is lent with it
  pub checks : List Check
  -- whether a query, one coordinate an axis, has a cell that cannot be represented
  pub refuses : List Float → Bool
  -- the value there, and part k of the gradient
  pub value : List Float → Float
  pub part : List Float → ℕ → Float

abbrev pub gradient : Spline → List Float → List Float
gradient s x = parts s.axes (s.part x)

-- ---- a single query of as many coordinates as there are axes

unfoldable pub one_answer : Spline → List Float → ℕ
one_answer s x = first_refusal (s.checks ++ (length_check s.axes (length x) ++ refuse 6 (s.refuses (query s.axes x 1 0)) ∷ []))

-- its value, zero where it is refused
pub record OneValue (s : Spline) (x : List Float) (answer : ℕ) (value : Float) : Type 0 where
  pub answers : answer ≡ one_answer s x
  pub valued : value ≡ cond (eqb answer 0) (s.value (query s.axes x 1 0)) f0

-- its gradient, zeros where it is refused
pub record OneGradient (s : Spline) (x : List Float) (answer : ℕ) (parts : List Float) : Type 0 where
  pub answers : answer ≡ one_answer s x
  pub gradient : parts ≡ cond (eqb answer 0) (gradient s (query s.axes x 1 0)) zeros

-- ---- the lengths of a batch: as many queries as there are outputs; of a gradient batch, outputs for whole queries

unfoldable pub batch_answer : Spline → ℕ → ℕ → ℕ
batch_answer s xs out = first_refusal (s.checks ++ length_check (s.axes * out) xs)

unfoldable pub gradient_batch_answer : Spline → ℕ → ℕ → ℕ
gradient_batch_answer s xs out = first_refusal (s.checks ++ (refuse 2 (not (eqb (out % s.axes) 0)) ∷ length_check out xs))
