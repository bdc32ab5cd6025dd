-- A call that is refused before the library is asked, and one check more in a list of checks. Assumes nothing.
--     n        what the call has answered so far
use Rattle.std.specs.Prelude.{Result}
use mathlib.Core.Path.{◌≡◌, refl, sym, ap, ◌∙◌}
use mathlib.Core.Bool.{Bool, true, false, cond}
use mathlib.Core.List.{List, [], ◌∷◌, ◌++◌}
use Prim.Native.Nat.{ℕ, zero, suc, ◌*◌}
use native.Mathlib.Omega.{arith}
use lib.Dec.{eqb}
use lib.ListN.{length, take}
use lib.Ieee.{Float}
use borrow.Author.Tests.{ne_eqb}
use Rattle.shape.specs.Shape.{first}
use Rattle.shape.specs.Checks.{Check, first_refusal, shape_checks, length_check, Positive}
use Rattle.shape.specs.Sizes.{first_cell_answer, FirstCellFound}
use Rattle.shape.specs.Refusal.{refusal_number, answer_number, answer_or}
use Rattle.shape.specs.declared.answers.Refusal.{Refusal}
use Rattle.shape.specs.Fit.{FitLeaves}
use Rattle.shape.proofs.Accepted.{refused-append, refusal-append, passed-append, accepted-append}
use Rattle.shape.proofs.Checks.{length-fails, length-passes}
use Rattle.ledger.proofs.Stages.{refusal-some, none-refuse}
use Rattle.evaluation.specs.Spline.{Spline, one_answer}
use Rattle.capi_parts.specs.Inputs.{lens_of}
use Rattle.capi_parts.specs.Outputs.{Wrote}
use Rattle.capi_parts.specs.Splines.{with_slopes}
use Rattle.capi_parts.specs.Regular.{grid_ready_checks}

-- ---- refused

pub refused-some : (before after : List Check) (n : ℕ) → n ≡ first_refusal before → (n ≡ 0 → ⊥) → n ≡ first_refusal (before ++ after)
refused-some before after zero e h = absurd (h refl)
refused-some before after (suc n) e h = sym (refused-append before after n (sym e))

module _ {n : ℕ} (h : n ≡ 0 → ⊥) where
  some : {k : ℕ} → n ≡ k → eqb k 0 ≡ false
  some {k} e = ne_eqb k 0 (λ z. h (e ∙ z))

  pub wrote_nothing : {A : Type 0} {expected : ℕ} {value old : A} → n ≡ expected → Wrote expected value old n old
  wrote_nothing e = let b = some e in record { answers = e; leaves = rw b }

  pub fitted-nothing : {A : Type 0} {k : ℕ} {fit left coefs scratch : List A} → n ≡ k → FitLeaves k fit left coefs scratch coefs scratch
  fitted-nothing e = let b = some e in record { coefficients = rw b; scratch_after = rw b }

  -- a map whose checks refuse
  module _ (s : Spline) (e : n ≡ first_refusal s.checks) where
    pub slopes-not : (slopes : ℕ) (x : List Float) → n ≡ one_answer (with_slopes slopes s) x
    unfolding one_answer
    slopes-not slopes x = refused-some (s.checks ++ length_check s.axes slopes) _ n (refused-some s.checks (length_check s.axes slopes) n e h) h

-- ---- what is found, put where it is asked for

pub twice : {A : Type 0} (b : Bool) (v z old : A) → cond b (cond b v z) old ≡ cond b v old
twice true v z old = refl
twice false v z old = refl

pub cell_put : {count : ℕ} {lens : List ℕ} {a l : ℕ} {r : Result ℕ Refusal} {old k n cell : ℕ} → FirstCellFound count lens a l r → Wrote (answer_number r) (answer_or 0 r) old k cell → n ≡ k
    → Wrote (first_cell_answer count lens a l) (first (take count lens) a l) old n cell
cell_put {count} {lens} {a} {l} {old = old} w p e =
    record { answers = e ∙ p.answers ∙ w.answers; leaves = p.leaves ∙ rw (w.cell, w.answers) (twice (eqb (first_cell_answer count lens a l) 0) (first (take count lens) a l) 0 old) }

-- the number of a refusal is not 0
pub refusal-not : (r : Refusal) {n : ℕ} → n ≡ refusal_number r → n ≡ 0 → ⊥
refusal-not r e z = refusal-some r (sym e ∙ z)

-- and what it writes: nothing
pub put_refused : {A : Type 0} {value old : A} (refusal : Refusal) {n : ℕ} → n ≡ refusal_number refusal → Wrote (refusal_number refusal) value old n old
put_refused refusal e = wrote_nothing (refusal-not refusal e) e

-- ---- the shape, then the length of a regular grid

module _ (dims : List ℕ) (grid : List Float) where
  pub ready-shape : (r : Refusal) → refusal_number r ≡ first_refusal (shape_checks (length dims) (lens_of dims)) → refusal_number r ≡ first_refusal (grid_ready_checks dims grid)
  ready-shape r e = refusal-append r (shape_checks (length dims) (lens_of dims)) (length_check (2 * length dims) (length grid)) e

  module _ (ok : first_refusal (shape_checks (length dims) (lens_of dims)) ≡ 0) where
    after-shape : first_refusal (grid_ready_checks dims grid) ≡ first_refusal (length_check (2 * length dims) (length grid))
    after-shape = accepted-append (length dims) (lens_of dims) ok (length_check (2 * length dims) (length grid))

    pub ready-length : (length grid ≡ 2 * length dims → ⊥) → ◌≡◌ {A = ℕ} 2 (first_refusal (grid_ready_checks dims grid))
    ready-length h = length-fails [] (2 * length dims) (length grid) h ∙ sym after-shape

    pub ready-passed : length grid ≡ 2 * length dims → ◌≡◌ {A = ℕ} 0 (first_refusal (grid_ready_checks dims grid))
    ready-passed h = sym (after-shape ∙ length-passes [] (2 * length dims) (length grid) h ∙ none-refuse)

-- ---- a buffer of another length than the axis count: the checks of the map, else 2

module _ (s : Spline) (pos : Positive s.checks) {slopes : ℕ} (h : slopes ≡ s.axes → ⊥) where
  pub slopes-refused : (k : ℕ) → k ≡ first_refusal s.checks → cond (eqb k 0) 2 k ≡ first_refusal (s.checks ++ length_check s.axes slopes)
  slopes-refused zero e = length-fails [] s.axes slopes h ∙ sym (passed-append s.checks (length_check s.axes slopes) pos (sym e))
  slopes-refused (suc k) e =
      let b : eqb (suc k) 0 ≡ false = ne_eqb (suc k) 0 (λ z. omega (arith, z)) in
      rw b (refused-some s.checks (length_check s.axes slopes) (suc k) e (λ z. omega (arith, z)))

  slopes-some : (k : ℕ) → cond (eqb k 0) 2 k ≡ 0 → ⊥
  slopes-some zero z = let q : ◌≡◌ {A = ℕ} 2 0 = z in omega (arith, q)
  slopes-some (suc k) z = let b : eqb (suc k) 0 ≡ false = ne_eqb (suc k) 0 (λ q. omega (arith, q)) in let q : suc k ≡ 0 = rw b at z in omega (arith, q)

  pub slopes-wrote : (x : List Float) {value old : List Float} {k n : ℕ} → k ≡ first_refusal s.checks → n ≡ cond (eqb k 0) 2 k → Wrote (one_answer (with_slopes slopes s) x) value old n old
  unfolding one_answer
  slopes-wrote x {k = k} {n = n} e en =
      let above : n ≡ 0 → ⊥ = λ z. slopes-some k (sym en ∙ z) in
      wrote_nothing above (refused-some (s.checks ++ length_check s.axes slopes) _ n (en ∙ slopes-refused k e) above)

-- ---- a check that passes makes no difference

pub without : (before check after : List Check) → first_refusal (check ++ after) ≡ first_refusal after → first_refusal ((before ++ check) ++ after) ≡ first_refusal (before ++ after)
unfolding first_refusal
without [] check after e = e
without (c ∷ before) check after e = ap (cond c.fails c.number) (without before check after e)
