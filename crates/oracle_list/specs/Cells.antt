-- Cells of the buffers, before and after a call. Assumes nothing.
use Rattle.std.specs.Prelude.{Bool, true, false, ◌&&◌, List, [], ◌∷◌, ℕ, zero, suc, pos, negsuc, Float}
use Rattle.std.specs.Float.{fin, binary64}
use Rattle.std.specs.Float.Ieee.{add, sub, neg, le}
use Rattle.float_text.specs.Bits.{same_bits}

-- 1/2 and 1
abbrev pub half : Float
half = fin false 1 (negsuc 0)

abbrev pub one : Float
one = fin false 1 (pos 0)

-- -1/4 and -1
abbrev pub minus_quarter : Float
minus_quarter = fin true 1 (negsuc 1)

abbrev pub minus_one : Float
minus_one = fin true 1 (pos 0)

-- n cells that count from x on, by a step
unfoldable pub counted : Float → Float → ℕ → List Float
counted x step zero = []
counted x step (suc n) = x ∷ counted (add binary64 x step) step n

-- two lists are as long, and each cell passes a test with the other list's
unfoldable pub every_pair : (Float → Float → Bool) → List Float → List Float → Bool
every_pair test [] [] = true
every_pair test [] (y ∷ ys) = false
every_pair test (x ∷ xs) [] = false
every_pair test (x ∷ xs) (y ∷ ys) = test x y && every_pair test xs ys

-- the same bits, any NaN for any NaN
abbrev pub same_cells : List Float → List Float → Bool
same_cells xs ys = every_pair same_bits xs ys

-- x is at most the tolerance away from y
unfoldable pub is_near : Float → Float → Float → Bool
is_near tolerance x y = le (sub binary64 x y) tolerance && le (neg tolerance) (sub binary64 x y)
