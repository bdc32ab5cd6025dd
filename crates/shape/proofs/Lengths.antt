-- Laws of the lengths of the axes: `product`, `longest` and `any_short` of the axes from one on. Assumes nothing.
use mathlib.Core.Path.{◌≡◌, refl, ap, ◌∙◌}
use mathlib.Core.Bool.{Bool, true, false, ◌||◌}
use mathlib.Core.List.{List, [], ◌∷◌}
use Prim.Native.Nat.{ℕ, ◌+◌, ◌*◌, ◌<◌, ◌≤◌, max}
use native.Mathlib.Nat.{mul-pos}
use native.Mathlib.Numerals.{add-one}
use native.Mathlib.Omega.{arith}
use lib.Dec.{ltb}
use lib.ListN.{length, take, drop, get_or, drop_of_length-le}
use lib.Seq.{slice-cons, length-take-le, drop-cons}
use borrow.Author.Tests.{ltb-false}
use Rattle.shape.specs.Shape.{product, longest}
use Rattle.shape.specs.Checks.{any_short}

-- ---- the lengths from i on: one more

module _ (dims : List ℕ) (i : ℕ) (h : i < length dims) where
  pub short-at : any_short (drop i dims) ≡ (ltb (get_or dims i 0) 4 || any_short (drop (i + 1) dims))
  unfolding any_short
  short-at = ap any_short (drop-cons dims i 0 h) ∙ rw add-one

  pub product-at : product (drop i dims) ≡ get_or dims i 0 * product (drop (i + 1) dims)
  unfolding product
  product-at = ap product (drop-cons dims i 0 h) ∙ rw add-one

  pub longest-at : longest (drop i dims) ≡ max (get_or dims i 0) (longest (drop (i + 1) dims))
  unfolding longest
  longest-at = ap longest (drop-cons dims i 0 h) ∙ rw add-one

-- the length at i is a factor of what is left
pub factor-at : (dims : List ℕ) (i total : ℕ) → i < length dims → total * product (drop i dims) ≡ product dims → total * get_or dims i 0 * product (drop (i + 1) dims) ≡ product dims
factor-at dims i total h e = omega (arith, e, ap (λ (x : ℕ). total * x) (product-at dims i h))

-- and none
module _ (dims : List ℕ) (i : ℕ) (h : length dims ≤ i) where
  pub short-past : any_short (drop i dims) ≡ false
  unfolding any_short
  short-past = ap any_short (drop_of_length-le dims {i = i} h)

  pub product-past : product (drop i dims) ≡ 1
  unfolding product
  product-past = ap product (drop_of_length-le dims {i = i} h)

  pub longest-past : longest (drop i dims) ≡ 0
  unfolding longest
  longest-past = ap longest (drop_of_length-le dims {i = i} h)

-- ---- the axes from i on, of the first k: one more axis, and none

module _ (lens : List ℕ) (k i : ℕ) (h : k ≤ length lens) where
  pub product-cons : i < k → product (drop i (take k lens)) ≡ get_or lens i 0 * product (drop (i + 1) (take k lens))
  unfolding product
  product-cons g = ap product (slice-cons i k lens 0 g h) ∙ rw add-one

  none : k ≤ i → drop i (take k lens) ≡ []
  none g = drop_of_length-le (take k lens) {i = i} (rw (length-take-le k lens h) g)

  pub product-end : k ≤ i → product (drop i (take k lens)) ≡ 1
  unfolding product
  product-end g = ap product (none g)

-- ---- axes of four points or more

pub or-false : (a b : Bool) → (a || b) ≡ false → (a ≡ false) × (b ≡ false)
or-false true b e = absurd (let z : ◌≡◌ {A = ℕ} 0 1 = cc in let q : ⊥ = omega arith in q)
or-false false b e = (refl, e)

pub product-pos-of-short : (dims : List ℕ) → any_short dims ≡ false → 0 < product dims
unfolding product any_short
product-pos-of-short [] e = omega arith
product-pos-of-short (n ∷ ns) e =
    let p = or-false (ltb n 4) (any_short ns) e in
    mul-pos (let q : 4 ≤ n = ltb-false n 4 p.0 in omega arith) (product-pos-of-short ns p.1)
