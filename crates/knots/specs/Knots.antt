-- The knots of one axis: whether they rise, and how many are below a query. Assumes nothing.
use Rattle.std.specs.Prelude.{Bool, true, cond, ◌&&◌, List, [], ◌∷◌, ℕ, ◌+◌, Float}
use Rattle.std.specs.Float.Ieee.{lt}

-- each knot is above the one before it; nothing is above a NaN, and a NaN is above nothing
unfoldable pub rises : List Float → Bool
rises [] = true
rises (a ∷ []) = true
rises (a ∷ b ∷ ks) = lt a b && rises (b ∷ ks)

-- how many knots are below x
unfoldable pub count_below : List Float → Float → ℕ
count_below [] x = 0
count_below (k ∷ ks) x = cond (lt k x) 1 0 + count_below ks x
