-- A query of a batch, coordinate by coordinate. Assumes nothing.
use mathlib.Core.Path.{◌≡◌, refl}
use mathlib.Core.List.{List}
use Prim.Native.Nat.{ℕ, zero, suc, ◌+◌, ◌*◌, ◌<◌}
use native.Mathlib.Omega.{arith}
use lib.ListN.{get_or, set}
use lib.Ieee.{Float, nan}
use Rattle.evaluation.specs.Axes.{zeros, query}

module _ (xs : List Float) (n i : ℕ) where
  -- one more axis
  pub query-next : (a : ℕ) → a < 4 → set (query a xs n i) a (get_or xs (a * n + i) nan) ≡ query (a + 1) xs n i
  unfolding query
  query-next zero h = refl
  query-next (suc zero) h = refl
  query-next (suc (suc zero)) h = refl
  query-next (suc (suc (suc zero))) h = refl
  query-next (suc (suc (suc (suc a)))) h = absurd (omega (arith, h))

  pub query-none : zeros ≡ query 0 xs n i
  unfolding query
  query-none = refl
