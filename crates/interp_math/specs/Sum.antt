-- The sum over the axes that gives a value or a part of the gradient, each operation rounded to the format f. Assumes nothing.
--     coefs     the coefficients
--     strides   the stride of each axis, axis 0 first
--     weights   the four weights of each axis, axis 0 first
use Rattle.std.specs.Prelude.{List, [], ◌∷◌, ℕ, zero, suc, ◌+◌, ◌*◌, get_or, set, Float}
use Rattle.std.specs.Float.{nan, Format}
use Rattle.std.specs.Float.Ieee.{add, mul}

-- a × b, rounded, plus c, rounded
unfoldable pub mul_add : Format → Float → Float → Float → Float
mul_add f a b c = add f (mul f a b) c

-- w1 × v1 added to w0 × v0, w3 × v3 to w2 × v2, then the two sums
unfoldable pub dot4 : Format → List Float → List Float → Float
dot4 f w v =
    add f
    (add f (mul f (get_or w 1 nan) (get_or v 1 nan)) (mul f (get_or w 0 nan) (get_or v 0 nan)))
    (add f (mul f (get_or w 3 nan) (get_or v 3 nan)) (mul f (get_or w 2 nan) (get_or v 2 nan)))

-- The sum over the first j axes, from the coefficient at `first` on. Over no axis it is that coefficient; over j + 1 axes it
-- is the four-term sum, by axis j's weights, of the sums over j axes at four neighbours along axis j.
unfoldable pub summed : Format → List Float → List ℕ → List (List Float) → ℕ → ℕ → Float
summed f coefs strides weights zero first = get_or coefs first nan
summed f coefs strides weights (suc j) first =
    dot4 f (get_or weights j [])
    (summed f coefs strides weights j first
    ∷ summed f coefs strides weights j (first + 1 * get_or strides j 0)
    ∷ summed f coefs strides weights j (first + 2 * get_or strides j 0)
    ∷ summed f coefs strides weights j (first + 3 * get_or strides j 0)
    ∷ [])

-- part k of the gradient: the same sum, with axis k's weights replaced by its slopes
unfoldable pub gradient_part : Format → List Float → List ℕ → List (List Float) → List (List Float) → ℕ → ℕ → ℕ → Float
gradient_part f coefs strides weights slopes count first k = summed f coefs strides (set weights k (get_or slopes k [])) count first
