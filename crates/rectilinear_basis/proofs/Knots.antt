-- Knots by their numbers in the code, which counts from the second knot before the first; and the weights of a span, from six
-- differences. Assumes nothing.
use mathlib.Core.Path.{◌≡◌, refl, ap, ◌∙◌}
use mathlib.Core.Logic.{⊎_elim}
use mathlib.Core.List.{List, [], ◌∷◌}
use Prim.Native.Nat.{ℕ, zero, suc, ◌+◌, ◌-◌, ◌≤◌, ◌<◌}
use native.Mathlib.Omega.{arith}
use borrow.Author.Tests.{lt-ltb, le-ltb}
use lib.IntN.{pos, negsuc, sub_ℕ}
use lib.ListN.{length}
use lib.Ieee.{Float, Format, binary32, binary64, neg, sub, of_int}
use Rattle.shape.proofs.Cells.{lt-or-ge}
use Rattle.multibspline.specs.Numbers.{f0}
use Rattle.multibspline.specs.Thomas.{at}
use Rattle.rectilinear_basis.specs.Knot.{knot}
use Rattle.rectilinear_basis.specs.Basis.{left_of, right_of, four, basis, basis_span_weights}
use Rattle.rectilinear_basis.specs.Between.{span_knots, weights_between}

-- the numbers of the two knots before the first, as floats
pub before-first : (f : Format) (p : ℕ) → p < 2 → neg (of_int f (pos (2 - p))) ≡ of_int f (negsuc (2 - suc p))
unfolding neg of_int
before-first binary32 zero h = refl
before-first binary32 (suc zero) h = refl
before-first binary64 zero h = refl
before-first binary64 (suc zero) h = refl
before-first f (suc (suc p)) h = absurd (omega arith)

-- the knots of left(j) and right(j)
left-number : (i j : ℕ) → j ≤ 3 → sub_ℕ (i + 3 - j) 2 ≡ sub_ℕ (i + 1) j
left-number i j h =
    ⊎_elim
    (λ (low : i + 1 < j). let p : i + 3 - j < 2 = omega arith in rw (lt-ltb (i + 3 - j) 2 p, lt-ltb (i + 1) j low) (ap negsuc (omega arith)))
    (λ (on : j ≤ i + 1). let p : 2 ≤ i + 3 - j = omega arith in rw (le-ltb (i + 3 - j) 2 p, le-ltb (i + 1) j on) (ap pos (omega arith)))
    (lt-or-ge (i + 1) j)

right-number : (i j : ℕ) → sub_ℕ (i + 2 + j) 2 ≡ pos (i + j)
right-number i j = rw (le-ltb (i + 2 + j) 2 (omega arith)) (ap pos (omega arith))

-- by their numbers in the code
knot-left : (i j p : ℕ) → j ≤ 3 → p + j ≡ i + 3 → sub_ℕ p 2 ≡ sub_ℕ (i + 1) j
knot-left i j p h e = let q : p ≡ i + 3 - j = omega arith in rw q (left-number i j h)

knot-right : (i j p : ℕ) → p ≡ i + 2 + j → sub_ℕ p 2 ≡ pos (i + j)
knot-right i j p e = rw e (right-number i j)

-- a knot of the list
listed : (f : Format) (ks : List Float) (i p : ℕ) → p ≡ i + 2 → i < length ks → at ks i ≡ knot f ks (sub_ℕ p 2)
listed f ks i p e h = let q : p - 2 ≡ i = omega arith in rw (le-ltb p 2 (omega arith)) (rw (q, lt-ltb i (length ks) h))

-- ---- the six knots beside a span

module _ (f : Format) (ks : List Float) (span : ℕ) where
  -- by their numbers in the code
  pub six-knots : {a b c d e g : Float} → a ≡ knot f ks (sub_ℕ span 2) → b ≡ knot f ks (sub_ℕ (span + 1) 2) → c ≡ knot f ks (sub_ℕ (span + 2) 2) → d ≡ knot f ks (sub_ℕ (span + 3) 2)
      → e ≡ knot f ks (sub_ℕ (span + 4) 2) → g ≡ knot f ks (sub_ℕ (span + 5) 2) → a ∷ b ∷ c ∷ d ∷ e ∷ g ∷ [] ≡ span_knots f ks span
  unfolding span_knots
  six-knots h₁ h₂ h₃ h₄ h₅ h₆ =
      rw (h₁, h₂, h₃, h₄, h₅, h₆)
      (rw (knot-left span 3 span (omega arith) (omega arith), knot-left span 2 (span + 1) (omega arith) (omega arith), knot-left span 1 (span + 2) (omega arith) (omega arith), knot-right span 1 (span + 3) (omega arith), knot-right span 2 (span + 4) (omega arith), knot-right span 3 (span + 5) (omega arith)))

  -- all of them in the list
  pub six-inner : 2 ≤ span → span + 3 < length ks → at ks (span - 2) ∷ at ks (span - 1) ∷ at ks span ∷ at ks (span + 1) ∷ at ks (span + 2) ∷ at ks (span + 3) ∷ [] ≡ span_knots f ks span
  six-inner low high =
      six-knots (listed f ks (span - 2) span (omega arith) (omega arith)) (listed f ks (span - 1) (span + 1) (omega arith) (omega arith)) (listed f ks span (span + 2) (omega arith) (omega arith)) (listed f ks (span + 1) (span + 3) (omega arith) (omega arith)) (listed f ks (span + 2) (span + 4) (omega arith) (omega arith)) (listed f ks (span + 3) (span + 5) (omega arith) (omega arith))

-- the weights are made of left and right at 1, 2 and 3
from-six : (f : Format) (left right : ℕ → Float) {l1 l2 l3 r1 r2 r3 : Float} → l1 ≡ left 1 → l2 ≡ left 2 → l3 ≡ left 3 → r1 ≡ right 1 → r2 ≡ right 2 → r3 ≡ right 3
    → four (basis f (at (f0 ∷ l1 ∷ l2 ∷ l3 ∷ [])) (at (f0 ∷ r1 ∷ r2 ∷ r3 ∷ [])) 3) ≡ four (basis f left right 3)
from-six f left right a b c d e g = rw (a, b, c, d, e, g)

pub between-six : (f : Format) (ks : List Float) (span : ℕ) (x : Float) → weights_between f (span_knots f ks span) x ≡ basis_span_weights f ks span x
unfolding weights_between span_knots basis_span_weights
between-six f ks span x = from-six f (left_of f ks span x) (right_of f ks span x) refl refl refl refl refl refl

pub by-six : (f : Format) (ks : List Float) (span : ℕ) (x : Float) {a b c d e g : Float} → a ∷ b ∷ c ∷ d ∷ e ∷ g ∷ [] ≡ span_knots f ks span
    → four (basis f (at (f0 ∷ sub f x c ∷ sub f x b ∷ sub f x a ∷ [])) (at (f0 ∷ sub f d x ∷ sub f e x ∷ sub f g x ∷ [])) 3) ≡ basis_span_weights f ks span x
unfolding weights_between
by-six f ks span x h = ap (λ (u : List Float). weights_between f u x) h ∙ between-six f ks span x
