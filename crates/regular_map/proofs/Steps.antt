-- Laws of the checks of a regular map. Assumes nothing.
use mathlib.Core.Path.{◌≡◌, refl, sym, ap, ◌∙◌}
use mathlib.Core.Bool.{Bool, true, false, cond, not, ◌||◌}
use mathlib.Core.List.{List, [], ◌∷◌, ◌++◌}
use Prim.Native.Nat.{ℕ}
use native.Mathlib.Omega.{arith}
use lib.Dec.{eqb}
use lib.ListN.{length, take}
use lib.Ieee.{Float, lt}
use Rattle.std.specs.List.{list_any}
use borrow.Author.Tests.{eq-eqb, ne_eqb, eqb-true}
use Rattle.shape.specs.Shape.{size}
use Rattle.shape.specs.Checks.{refuse, first_refusal, shape_checks, length_check}
use Rattle.shape.specs.Refusal.{refusal_number}
use Rattle.shape.specs.Usable.{Usable}
use Rattle.shape.specs.declared.answers.Refusal.{Refusal}
use Rattle.shape.proofs.Accepted.{refusal-append, accepted-append, prefix-passed, usable}
use Rattle.multibspline.specs.Numbers.{f0}
use Rattle.regular_blocks.specs.Checks.{any_step_bad, map_checks, map_answer}

-- a step that is not above zero, and one of these is
abbrev pub bad : Float → Bool
bad step = not (lt f0 step)

pub any-bad : (steps : List Float) → list_any bad steps ≡ any_step_bad steps
unfolding any_step_bad
any-bad [] = refl
any-bad (s ∷ ss) = ap (λ (b : Bool). bad s || b) (any-bad ss)

-- the checks of a record, outcome by outcome
module _ (count : ℕ) (lens : List ℕ) (steps : List Float) (coefs : ℕ) where
  pub map-shape : (r : Refusal) → refusal_number r ≡ first_refusal (shape_checks count lens) → refusal_number r ≡ map_answer count lens steps coefs
  unfolding map_answer
  map-shape r e = refusal-append r (shape_checks count lens) _ e

  module _ (ok : first_refusal (shape_checks count lens) ≡ 0) where
    after : map_answer count lens steps coefs ≡ first_refusal (length_check (size (take count lens)) coefs ++ refuse 5 (any_step_bad (take count steps)) ∷ [])
    unfolding map_answer
    after = accepted-append count lens ok (length_check (size (take count lens)) coefs ++ refuse 5 (any_step_bad (take count steps)) ∷ [])

    pub map-coefs : (coefs ≡ size (take count lens) → ⊥) → ◌≡◌ {A = ℕ} 2 (map_answer count lens steps coefs)
    unfolding first_refusal
    map-coefs h = rw (after, ne_eqb coefs (size (take count lens)) h)

    pub map_steps : {b : Bool} → coefs ≡ size (take count lens) → b ≡ any_step_bad (take count steps) → map_answer count lens steps coefs ≡ cond b 5 0
    unfolding first_refusal
    map_steps same e = rw (after, eq-eqb coefs (size (take count lens)) same, ← e)

-- ---- what an answer of the checks gives

module _ (count : ℕ) (lens : List ℕ) (steps : List Float) (coefs : ℕ) (e : ◌≡◌ {A = ℕ} 0 (map_answer count lens steps coefs)) where
  passes : first_refusal (map_checks count lens steps coefs) ≡ 0
  unfolding map_answer
  passes = sym e

  shape-passed : first_refusal (shape_checks count lens) ≡ 0
  shape-passed = prefix-passed (shape_checks count lens) (length_check (size (take count lens)) coefs ++ refuse 5 (any_step_bad (take count steps)) ∷ []) passes

  pub map-usable : length lens ≡ 4 → Usable count lens
  map-usable four = usable count lens four shape-passed

  pub map-sized : coefs ≡ size (take count lens)
  unfolding first_refusal
  map-sized = go (eqb coefs (size (take count lens))) refl (sym (accepted-append count lens shape-passed (length_check (size (take count lens)) coefs ++ refuse 5 (any_step_bad (take count steps)) ∷ [])) ∙ passes)
    where
      go : (b : Bool) → eqb coefs (size (take count lens)) ≡ b → ◌≡◌ {A = ℕ} (cond (not b) 2 (cond (any_step_bad (take count steps)) 5 0)) 0 → coefs ≡ size (take count lens)
      go true h z = eqb-true coefs (size (take count lens)) h
      go false h z = absurd (omega (arith, z))
