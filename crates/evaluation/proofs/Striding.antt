-- The strides of an accepted map, by the number of its axes. Assumes nothing.
use mathlib.Core.Path.{◌≡◌, refl, sym, ap, subst}
use mathlib.Core.List.{List, [], ◌∷◌}
use Prim.Native.Nat.{ℕ, zero, suc, ◌*◌, ◌≤◌, ◌<◌}
use native.Mathlib.Nat.{mul-one}
use native.Mathlib.Omega.{arith}
use lib.ListN.{length, take, get_or}
use borrow.Author.Tests.{lt-ltb}
use Rattle.shape.specs.Shape.{product, size}
use Rattle.shape.specs.Checks.{most_points}
use Rattle.shape.specs.Usable.{Usable}
use Rattle.shape.proofs.Accepted.{room}
use Rattle.interp_math.proofs.Four as entries
use Rattle.evaluation.specs.Axes.{strides}

module _ (lens : List ℕ) (four : length lens ≡ 4) where
  by-four : (P : List ℕ → Type 0) → ((a b c d : ℕ) → P (a ∷ b ∷ c ∷ d ∷ [])) → P lens
  by-four P p = subst P (sym (entries.four 0 lens four)) (p _ _ _ _)

  pub strides-of-1 : 1 ∷ 0 ∷ 0 ∷ 0 ∷ [] ≡ strides 1 lens
  unfolding product
  strides-of-1 = by-four (λ l. 1 ∷ 0 ∷ 0 ∷ 0 ∷ [] ≡ strides 1 l) (λ a b c d. refl)

  pub strides-of-2 : get_or lens 1 0 ∷ 1 ∷ 0 ∷ 0 ∷ [] ≡ strides 2 lens
  unfolding product
  strides-of-2 = by-four (λ l. get_or l 1 0 ∷ 1 ∷ 0 ∷ 0 ∷ [] ≡ strides 2 l) (λ a b c d. rw (mul-one b))

  pub strides-of-3 : get_or lens 1 0 * get_or lens 2 0 ∷ get_or lens 2 0 ∷ 1 ∷ 0 ∷ [] ≡ strides 3 lens
  unfolding product
  strides-of-3 = by-four (λ l. get_or l 1 0 * get_or l 2 0 ∷ get_or l 2 0 ∷ 1 ∷ 0 ∷ [] ≡ strides 3 l) (λ a b c d. rw (mul-one c))

  pub strides-of-4 : get_or lens 1 0 * (get_or lens 2 0 * get_or lens 3 0) ∷ get_or lens 2 0 * get_or lens 3 0 ∷ get_or lens 3 0 ∷ 1 ∷ [] ≡ strides 4 lens
  unfolding product
  strides-of-4 = by-four (λ l. get_or l 1 0 * (get_or l 2 0 * get_or l 3 0) ∷ get_or l 2 0 * get_or l 3 0 ∷ get_or l 3 0 ∷ 1 ∷ [] ≡ strides 4 l) (λ a b c d. rw (mul-one d))

  -- the products are numbers that the code can work out
  pub small-of-3 : Usable 3 lens → get_or lens 1 0 * get_or lens 2 0 ≤ most_points
  small-of-3 u = rw (ap (λ (l : List ℕ). get_or l 0 0) strides-of-3) (room 3 lens four u 0 (omega arith)).stride-small

  pub last-of-4 : Usable 4 lens → get_or lens 2 0 * get_or lens 3 0 ≤ most_points
  last-of-4 u = rw (ap (λ (l : List ℕ). get_or l 1 0) strides-of-4) (room 4 lens four u 1 (omega arith)).stride-small

  pub small-of-4 : Usable 4 lens → get_or lens 1 0 * (get_or lens 2 0 * get_or lens 3 0) ≤ most_points
  small-of-4 u = rw (ap (λ (l : List ℕ). get_or l 0 0) strides-of-4) (room 4 lens four u 0 (omega arith)).stride-small

  -- as many points as the first axis has, times its stride
  pub points-of-stride : (count : ℕ) → 0 < count → get_or lens 0 0 * get_or (strides count lens) 0 0 ≡ size (take count lens)
  unfolding product
  points-of-stride count h = by-four (λ l. get_or l 0 0 * get_or (strides count l) 0 0 ≡ size (take count l)) (λ a b c d. go count h a b c d)
    where
      go : (k : ℕ) → 0 < k → (a b c d : ℕ) → get_or (a ∷ b ∷ c ∷ d ∷ []) 0 0 * get_or (strides k (a ∷ b ∷ c ∷ d ∷ [])) 0 0 ≡ size (take k (a ∷ b ∷ c ∷ d ∷ []))
      go zero g a b c d = absurd (omega arith)
      go (suc k) g a b c d = rw (lt-ltb 0 (suc k) g)
