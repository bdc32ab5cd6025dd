-- Laws of `rises`: the check, knot by knot, and that knots which rise are in order. Assumes nothing.
use mathlib.Core.Path.{◌≡◌, refl, ap}
use mathlib.Core.Logic.{inl, inr}
use mathlib.Core.Bool.{Bool, true, ◌&&◌}
use mathlib.Core.List.{List, [], ◌∷◌}
use Prim.Native.Nat.{ℕ, zero, suc, ◌+◌, ◌≤◌, ◌<◌}
use native.Mathlib.Nat.{eq-or-lt_of_le}
use native.Mathlib.Omega.{arith}
use lib.ListN.{length, get_or, drop}
use lib.Ieee.{Float, nan, lt}
use Rattle.std.specs.List.{list_all, zip}
use Rattle.shape.proofs.Below.{and_both}
use Rattle.knots.specs.Knots.{rises}
use Rattle.knots.proofs.Compare.{lt-trans-float}

-- ---- the check: each knot with the one after it

pub rises-short : (ks : List Float) → length ks ≤ 1 → rises ks ≡ true
unfolding rises
rises-short [] h = refl
rises-short (a ∷ []) h = refl
rises-short (a ∷ b ∷ ks) h = absurd (let q : ⊥ = omega arith in q)

pub rises-by-pairs : (ks : List Float) → list_all (λ (p : Float × Float). lt p.0 p.1) (zip ks (drop 1 ks)) ≡ rises ks
unfolding rises
rises-by-pairs [] = refl
rises-by-pairs (a ∷ []) = refl
rises-by-pairs (a ∷ b ∷ ks) = ap (λ (rest : Bool). lt a b && rest) (rises-by-pairs (b ∷ ks))

-- ---- knots that rise

-- knots that are each above the one before rise
pub rises-of : (ks : List Float) → ((i : ℕ) → i + 1 < length ks → lt (get_or ks i nan) (get_or ks (i + 1) nan) ≡ true) → rises ks ≡ true
unfolding rises
rises-of [] h = refl
rises-of (a ∷ []) h = refl
rises-of (a ∷ b ∷ ks) h =
    rw (h 0 (omega arith))
    (rises-of (b ∷ ks) (λ i k.
    let e : suc i + 1 ≡ suc (i + 1) = omega arith in
    rw e at (h (suc i) (omega arith))))

adjacent : (ks : List Float) → rises ks ≡ true → (i : ℕ) → suc i < length ks → lt (get_or ks i nan) (get_or ks (suc i) nan) ≡ true
unfolding rises
adjacent [] h i g = absurd (let q : ⊥ = omega arith in q)
adjacent (a ∷ []) h i g = absurd (let q : ⊥ = omega arith in q)
adjacent (a ∷ b ∷ ks) h zero g = (and_both (lt a b) (rises (b ∷ ks)) h).0
adjacent (a ∷ b ∷ ks) h (suc i) g = adjacent (b ∷ ks) (and_both (lt a b) (rises (b ∷ ks)) h).1 i (omega arith)

-- each knot is below every later one
pub in_order : (ks : List Float) → rises ks ≡ true → (i j : ℕ) → i < j → j < length ks → lt (get_or ks i nan) (get_or ks j nan) ≡ true
in_order ks h i zero l g = absurd (let q : ⊥ = omega arith in q)
in_order ks h i (suc j) l g = elim (eq-or-lt_of_le (let q : i ≤ j = omega arith in q)) [
  | inl e ↦ rw e (adjacent ks h j g)
  | inr e ↦ lt-trans-float (get_or ks i nan) (get_or ks j nan) (get_or ks (suc j) nan) (in_order ks h i j e (omega arith)) (adjacent ks h j g)
]
