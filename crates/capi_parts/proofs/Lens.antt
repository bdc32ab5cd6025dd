-- The lengths that C hands over, as the library takes them. Assumes nothing.
use mathlib.Core.Path.{◌≡◌, refl}
use mathlib.Core.Bool.{Bool, true, false, cond}
use mathlib.Core.List.{List, [], ◌∷◌}
use Prim.Native.Nat.{ℕ}
use native.Mathlib.Omega.{arith}
use lib.Dec.{ltb}
use lib.ListN.{length, get_or}
use borrow.Author.Tests.{lt-ltb}
use Rattle.evaluation.specs.Axes.{in_use}
use Rattle.capi_parts.specs.Inputs.{lens_of, AxesAre}

pub axes-are-dims : AxesAre
unfolding lens_of
axes-are-dims [] h = refl
axes-are-dims (a ∷ []) h = refl
axes-are-dims (a ∷ b ∷ []) h = refl
axes-are-dims (a ∷ b ∷ c ∷ []) h = refl
axes-are-dims (a ∷ b ∷ c ∷ d ∷ []) h = refl
axes-are-dims (a ∷ b ∷ c ∷ d ∷ e ∷ es) h = absurd (omega (arith, h))

-- entries for axes not in use are zero already
pub lens-used : (dims : List ℕ) → in_use 0 0 (length dims) (lens_of dims) ≡ lens_of dims
unfolding lens_of in_use
lens-used [] = refl
lens-used (a ∷ []) = refl
lens-used (a ∷ b ∷ []) = refl
lens-used (a ∷ b ∷ c ∷ []) = refl
lens-used (a ∷ b ∷ c ∷ d ∷ []) = refl
lens-used (a ∷ b ∷ c ∷ d ∷ e ∷ es) =
    let n = length (a ∷ b ∷ c ∷ d ∷ e ∷ es) in
    rw (lt-ltb 4 n (omega arith), lt-ltb 0 n (omega arith), lt-ltb 1 n (omega arith), lt-ltb 2 n (omega arith), lt-ltb 3 n (omega arith))

pub four-lens : (dims : List ℕ) → length (lens_of dims) ≡ 4
unfolding lens_of
four-lens dims = go (ltb 4 (length dims))
  where
    go : (b : Bool) → length (cond b (0 ∷ 0 ∷ 0 ∷ 0 ∷ []) (get_or dims 0 0 ∷ get_or dims 1 0 ∷ get_or dims 2 0 ∷ get_or dims 3 0 ∷ [])) ≡ 4
    go true = refl
    go false = refl
