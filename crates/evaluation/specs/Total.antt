-- Demand 1 for the calls that evaluate a map, on either grid. Assumes nothing.
use Rattle.std.specs.Prelude.{◌≡◌, ◌↔◌, Bool, true, false, List, [], ◌∷◌, ◌++◌, ℕ, ◌*◌, ◌/◌, ◌%◌, ◌<◌, length, Float}
use Rattle.shape.specs.Outcome.{Condition, refuse_unless, Total, length_condition}
use Rattle.evaluation.specs.Axes.{query}
use Rattle.evaluation.specs.Spline.{Spline, one_answer}
use Rattle.evaluation.specs.Batch.{before, values_answer, gradients_answer}

-- of a map with conditions `map` of its own, where `HasPlace x` says that query x has a place on every axis
pub record EvaluationTotal (s : Spline) (map : List Condition) (HasPlace : List Float → Type 0) : Type 1 where
  -- a single value or gradient
  pub one : (x : List Float)
      → Total (one_answer s x) (map ++ (length_condition s.axes (length x) ∷ refuse_unless 6 (HasPlace (query s.axes x 1 0)) ∷ []))
  -- a batch of values: accepted where each entry has a place, 6 where some entry has none
  pub values : (xs out : List Float)
      → Total (values_answer s xs out) (
      map
      ++ (length_condition (s.axes * length out) (length xs)
      ∷ refuse_unless 6 ((i : ℕ) → i < length out → HasPlace (query s.axes xs (length out) i))
      ∷ []))
  -- a batch of gradients, as many outputs as whole queries have parts
  pub gradients : (xs out : List Float)
      → Total (gradients_answer s xs out) (
      map
      ++ (refuse_unless 2 (length out % s.axes ≡ 0)
      ∷ length_condition (length out) (length xs)
      ∷ refuse_unless 6 ((i : ℕ) → i < length out / s.axes → HasPlace (query s.axes xs (length out / s.axes) i))
      ∷ []))

-- how many entries a refused batch has written, `before` the first bad one: all n exactly where none is bad, and k exactly where
-- k is the first bad one
pub record BeforeIsFirst (bad : ℕ → Bool) (n : ℕ) : Type 0 where
  pub all : (before bad n ≡ n) ↔ ((i : ℕ) → i < n → bad i ≡ false)
  pub first : (k : ℕ) → k < n → (before bad n ≡ k) ↔ ((bad k ≡ true) × ((i : ℕ) → i < k → bad i ≡ false))
