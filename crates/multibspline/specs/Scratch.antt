-- Rows in scratch: the upper numbers from 0 on, the right sides from m on. Inner: what functions of the library promise each
-- other; a caller has no use for it. Assumes nothing.
use Rattle.std.specs.Prelude.{ℕ, zero, suc, ◌+◌, ◌-◌, List, set, Float}
use Rattle.std.specs.Float.{Format}
use Rattle.multibspline.specs.Thomas.{Reduced, back_at, at}

-- scratch with row i reduced
abbrev pub with_reduced : ℕ → ℕ → Reduced → List Float → List Float
with_reduced m i row scratch = set (set scratch i row.upper) (m + i) row.right

-- x(i), from the reduced rows in scratch
abbrev pub solved : Format → ℕ → ℕ → List Float → ℕ → Float
solved f n m scratch i = back_at f (at scratch) (λ k. at scratch (m + k)) (n - 1) i

-- cell `place i` set to `g i` for each i below n, the last first
abbrev pub put_down : (ℕ → ℕ) → (ℕ → Float) → ℕ → List Float → List Float
put_down place g zero xs = xs
put_down place g (suc n) xs = put_down place g n (set xs (place n) (g n))
