-- A call's checks, one after the other: one that fails gives the answer, one that passes leaves it to the rest, and where the
-- call is accepted all have passed. Assumes nothing.
use mathlib.Core.Path.{◌≡◌, refl}
use mathlib.Core.Bool.{Bool, true, false, cond}
use mathlib.Core.List.{List, ◌∷◌, ◌++◌}
use Prim.Native.Nat.{ℕ, ◌*◌, ◌≤◌, ◌<◌}
use native.Mathlib.Omega.{arith}
use lib.Dec.{eqb}
use borrow.Author.Tests.{lt-ltb, le-ltb, ltb-false, eq-eqb, ne_eqb, eqb-true, not-false}
use Rattle.shape.specs.Shape.{longest}
use Rattle.shape.specs.Checks.{Check, refuse, first_refusal, length_check, scratch_check}

module _ (rest : List Check) where
  module _ (number : ℕ) (b : Bool) where
    pub check-fails : b ≡ true → number ≡ first_refusal (refuse number b ∷ rest)
    unfolding first_refusal
    check-fails e = rw e

    pub check-passes : b ≡ false → first_refusal (refuse number b ∷ rest) ≡ first_refusal rest
    unfolding first_refusal
    check-passes e = rw e

    pub check-passed : 0 < number → first_refusal (refuse number b ∷ rest) ≡ 0 → (b ≡ false) × (first_refusal rest ≡ 0)
    unfolding first_refusal
    check-passed pos e = go b e
      where
        go : (t : Bool) → cond t number (first_refusal rest) ≡ 0 → (t ≡ false) × (first_refusal rest ≡ 0)
        go true h = absurd (omega arith)
        go false h = (refl, h)

  -- the length of a buffer
  module _ (wanted given : ℕ) where
    pub length-fails : (given ≡ wanted → ⊥) → ◌≡◌ {A = ℕ} 2 (first_refusal (length_check wanted given ++ rest))
    length-fails h = check-fails 2 _ (rw (ne_eqb given wanted h))

    pub length-passes : given ≡ wanted → first_refusal (length_check wanted given ++ rest) ≡ first_refusal rest
    length-passes e = check-passes 2 _ (rw (eq-eqb given wanted e))

    pub length-passed : first_refusal (length_check wanted given ++ rest) ≡ 0 → (given ≡ wanted) × (first_refusal rest ≡ 0)
    length-passed e = let p = check-passed 2 _ (omega arith) e in (eqb-true given wanted (not-false (eqb given wanted) p.0), p.1)

  -- that of scratch
  module _ (dims : List ℕ) (scratch : ℕ) where
    pub scratch-fails : scratch < 2 * longest dims → ◌≡◌ {A = ℕ} 4 (first_refusal (scratch_check dims scratch ++ rest))
    scratch-fails h = check-fails 4 _ (lt-ltb scratch (2 * longest dims) h)

    pub scratch-passes : 2 * longest dims ≤ scratch → first_refusal (scratch_check dims scratch ++ rest) ≡ first_refusal rest
    scratch-passes h = check-passes 4 _ (le-ltb scratch (2 * longest dims) h)

    pub scratch-passed : first_refusal (scratch_check dims scratch ++ rest) ≡ 0 → (2 * longest dims ≤ scratch) × (first_refusal rest ≡ 0)
    scratch-passed e = let p = check-passed 4 _ (omega arith) e in (ltb-false scratch (2 * longest dims) p.0, p.1)
