-- What a block of a batch leaves. Assumes nothing.
use Rattle.std.specs.Prelude.{◌≡◌, Bool, true, false, List, ℕ, ◌+◌, ◌*◌, ◌≤◌, ◌<◌, get_or, Float}
use Rattle.evaluation.specs.Batch.{written}

-- how far the coefficients of a query reach past the first; unused strides are 0
abbrev pub reach : List ℕ → ℕ
reach strides = 3 * (get_or strides 0 0 + get_or strides 1 0 + get_or strides 2 0 + get_or strides 3 0)

-- the m entries from `start` on: r of them are written, and then all are done or one is bad
pub record Block (bad : ℕ → Bool) (step : ℕ → List Float → List Float) (start m : ℕ) (out : List Float) (r : ℕ) (out' : List Float) : Type 0 where
  pub most : r ≤ m
  pub good : (k : ℕ) → k < r → bad (start + k) ≡ false
  pub stops : r < m → bad (start + r) ≡ true
  pub leaves : out' ≡ written (λ k. step (start + k)) r out
