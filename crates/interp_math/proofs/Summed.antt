-- The sum over j axes looks at the strides and weights of these alone. Assumes nothing.
use mathlib.Core.Path.{◌≡◌, refl}
use mathlib.Core.List.{List, []}
use Prim.Native.Nat.{ℕ, zero, suc, ◌+◌, ◌*◌, ◌<◌}
use native.Mathlib.Omega.{arith}
use lib.ListN.{get_or}
use lib.Ieee.{Float, Format}
use Rattle.interp_math.specs.Sum.{dot4, summed}

pub summed-ext : (f : Format) (coefs : List Float) (strides strides' : List ℕ) (weights weights' : List (List Float)) (j first : ℕ)
    → ((l : ℕ) → l < j → get_or strides l 0 ≡ get_or strides' l 0) → ((l : ℕ) → l < j → get_or weights l [] ≡ get_or weights' l [])
    → summed f coefs strides weights j first ≡ summed f coefs strides' weights' j first
unfolding summed
summed-ext f coefs strides strides' weights weights' zero first s w = refl
summed-ext f coefs strides strides' weights weights' (suc j) first s w =
    let below : (at : ℕ) → summed f coefs strides weights j at ≡ summed f coefs strides' weights' j at =
    λ at. summed-ext f coefs strides strides' weights weights' j at (λ l h. s l (omega arith)) (λ l h. w l (omega arith)) in
    let n = get_or strides' j 0 in
    rw (w j (omega arith), s j (omega arith), below first, below (first + 1 * n), below (first + 2 * n), below (first + 3 * n))

-- and of a row of weights only what its four-term sums are
pub summed-dots : (f : Format) (coefs : List Float) (strides : List ℕ) (weights weights' : List (List Float)) (j first : ℕ)
    → ((l : ℕ) (v : List Float) → l < j → dot4 f (get_or weights l []) v ≡ dot4 f (get_or weights' l []) v) → summed f coefs strides weights j first ≡ summed f coefs strides weights' j first
unfolding summed
summed-dots f coefs strides weights weights' zero first w = refl
summed-dots f coefs strides weights weights' (suc j) first w =
    let below : (at : ℕ) → summed f coefs strides weights j at ≡ summed f coefs strides weights' j at = λ at. summed-dots f coefs strides weights weights' j at (λ l v h. w l v (omega arith)) in
    let n = get_or strides j 0 in
    rw (below first, below (first + 1 * n), below (first + 2 * n), below (first + 3 * n)) (w j _ (omega arith))
