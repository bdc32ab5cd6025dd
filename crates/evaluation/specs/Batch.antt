-- Batches of queries, axis after axis. A batch that is refused with 6 at an entry has written the entries before it and none
-- from it on. Assumes nothing.
use Rattle.std.specs.Prelude.{◌≡◌, Bool, cond, List, ℕ, zero, suc, ◌+◌, ◌*◌, ◌/◌, eqb, ltb, length, set, Float}
use Rattle.shape.specs.Cells.{put}
use Rattle.evaluation.specs.Axes.{query}
use Rattle.evaluation.specs.Spline.{Spline, batch_answer, gradient_batch_answer}

-- how many of n entries come before the first that is bad
unfoldable pub before : (ℕ → Bool) → ℕ → ℕ
before bad zero = 0
before bad (suc n) = cond (eqb (before bad n) n) (cond (bad n) n (suc n)) (before bad n)

-- the output with the first k entries written, each by its own step
unfoldable pub written : (ℕ → List Float → List Float) → ℕ → List Float → List Float
written step zero out = out
written step (suc k) out = step k (written step k out)

-- ---- of n queries on a map

module _ (s : Spline) (xs : List Float) (n : ℕ) where
  -- is query i refused?
  unfoldable pub bad_at : ℕ → Bool
  bad_at i = s.refuses (query s.axes xs n i)

  -- entry i of the values
  unfoldable pub value_step : ℕ → List Float → List Float
  value_step i out = set out i (s.value (query s.axes xs n i))

  -- entry i of the gradients: part k stands at k n + i
  unfoldable pub gradient_step : ℕ → List Float → List Float
  gradient_step i out = put (λ k. k * n + i) (s.part (query s.axes xs n i)) s.axes out

-- ---- what a batch answers and leaves

-- `lengths` is the answer of the checks before the entries; then 6 where some entry is bad
abbrev pub entries_answer : ℕ → (ℕ → Bool) → ℕ → ℕ
entries_answer lengths bad n = cond (eqb lengths 0) (cond (ltb (before bad n) n) 6 0) lengths

pub record Batch (lengths : ℕ) (bad : ℕ → Bool) (step : ℕ → List Float → List Float) (n : ℕ) (out : List Float) (answer : ℕ) (out' : List Float) : Type 0 where
  pub answers : answer ≡ entries_answer lengths bad n
  pub leaves : out' ≡ cond (eqb lengths 0) (written step (before bad n) out) out

-- ---- a batch of values, and one of gradients

abbrev pub ValueBatch : Spline → List Float → List Float → ℕ → List Float → Type 0
ValueBatch s xs out answer out' =
    let n = length out in Batch (batch_answer s (length xs) n) (bad_at s xs n) (value_step s xs n) n out answer out'

abbrev pub GradientBatch : Spline → List Float → List Float → ℕ → List Float → Type 0
GradientBatch s xs out answer out' =
    let n = length out / s.axes in Batch (gradient_batch_answer s (length xs) (length out)) (bad_at s xs n) (gradient_step s xs n) n out answer out'

-- what each answers
abbrev pub values_answer : Spline → List Float → List Float → ℕ
values_answer s xs out = let n = length out in entries_answer (batch_answer s (length xs) n) (bad_at s xs n) n

abbrev pub gradients_answer : Spline → List Float → List Float → ℕ
gradients_answer s xs out = let n = length out / s.axes in entries_answer (gradient_batch_answer s (length xs) (length out)) (bad_at s xs n) n
