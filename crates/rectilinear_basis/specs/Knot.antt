-- The knots of an axis, continued past both ends by the end spacing. Assumes nothing.
use Rattle.std.specs.Prelude.{cond, List, ◌-◌, ltb, ℤ, pos, negsuc, length, Float}
use Rattle.std.specs.Float.{Format}
use Rattle.std.specs.Float.Ieee.{add, sub, mul, of_int}
use Rattle.multibspline.specs.Thomas.{at}

-- k times the spacing from a to b, from `end` on
abbrev pub spacings : Format → Float → ℤ → Float → Float → Float
spacings f end k a b = add f end (mul f (of_int f k) (sub f b a))

-- knot i of an axis: before the first knot, which is knot 0, and past the last one the end spacing goes on
abbrev pub knot : Format → List Float → ℤ → Float
knot f ks (negsuc i) = spacings f (at ks 0) (negsuc i) (at ks 0) (at ks 1)
knot f ks (pos i) =
    let n = length ks in
    cond (ltb i n) (at ks i) (spacings f (at ks (n - 1)) (pos (i - (n - 1))) (at ks (n - 2)) (at ks (n - 1)))
