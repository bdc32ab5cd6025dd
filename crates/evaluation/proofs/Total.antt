-- Demand 1 for the calls that evaluate a map, on either grid. Assumes nothing.
use mathlib.Core.Path.{◌≡◌, refl, sym, ap, ◌∙◌}
use mathlib.Core.Logic.{◌↔◌, ◌⊎◌, inl, inr}
use mathlib.Core.Bool.{Bool, true, false, cond, not}
use mathlib.Core.List.{List, [], ◌∷◌, ◌++◌, append_assoc}
use Prim.Native.Nat.{ℕ, zero, suc, ◌*◌, ◌/◌, ◌%◌, ◌≤◌, ◌<◌}
use native.Mathlib.Nat.{eq-or-lt_of_le, le_of_suc-le-suc}
use native.Mathlib.Numerals.{add-one}
use native.Mathlib.Omega.{arith}
use lib.Dec.{eqb, ltb}
use lib.ListN.{length}
use lib.Ieee.{Float}
use borrow.Author.Tests.{eqb-true, eqb-false, ne_eqb, le-ltb, ltb-false}
use Rattle.shape.specs.Checks.{Check, refuse, first_refusal, length_check, Positive}
use Rattle.shape.specs.Outcome.{Condition, refuse_unless, Total}
use Rattle.shape.proofs.Accepted.{refused-append, passed-append, positive-append, both-passed}
use Rattle.shape.proofs.Checks.{length-passed}
use Rattle.shape.proofs.Outcome.{Tests, none, test, total, append, length-test}
use Rattle.evaluation.specs.Axes.{query}
use Rattle.evaluation.specs.Spline.{Spline, one_answer, batch_answer, gradient_batch_answer}
use Rattle.evaluation.specs.Batch.{before, bad_at, entries_answer}
use Rattle.evaluation.specs.Total.{EvaluationTotal, BeforeIsFirst}
use Rattle.evaluation.proofs.Batches.{before-next, before-stop}

-- ---- the entries before the first bad one

module _ (bad : ℕ → Bool) where
  -- no more than there are, and none of them is bad
  before-le : (n : ℕ) → before bad n ≤ n
  unfolding before
  before-le zero = omega arith
  before-le (suc n) = go (eqb (before bad n) n) (bad n) (before-le n)
    where
      go : (b c : Bool) → before bad n ≤ n → cond b (cond c n (suc n)) (before bad n) ≤ suc n
      go true true h = omega arith
      go true false h = omega arith
      go false c h = omega arith

  before-good : (n i : ℕ) → i < before bad n → bad i ≡ false
  unfolding before
  before-good zero i h = absurd (omega (arith, h))
  before-good (suc n) i h = go (eqb (before bad n) n) refl (bad n) refl h (λ k. before-good n i k)
    where
      last : bad n ≡ false → (i ≡ n) ⊎ (i < n) → (i < n → bad i ≡ false) → bad i ≡ false
      last e (inl q) ih = rw q e
      last e (inr k) ih = ih k

      go : (b : Bool) → eqb (before bad n) n ≡ b → (c : Bool) → bad n ≡ c → i < cond b (cond c n (suc n)) (before bad n) → (i < before bad n → bad i ≡ false) → bad i ≡ false
      go true e true d k ih = let same = eqb-true (before bad n) n e in ih (rw same k)
      go true e false d k ih = let same = eqb-true (before bad n) n e in last d (eq-or-lt_of_le (le_of_suc-le-suc k)) (λ l. ih (rw same l))
      go false e c d k ih = ih k

  -- the one after them is
  before-bad : (n : ℕ) → before bad n < n → bad (before bad n) ≡ true
  unfolding before
  before-bad zero h = absurd (omega (arith, h))
  before-bad (suc n) h = go (eqb (before bad n) n) refl (bad n) refl h (before-bad n)
    where
      go : (b : Bool) → eqb (before bad n) n ≡ b → (c : Bool) → bad n ≡ c → cond b (cond c n (suc n)) (before bad n) < suc n → (before bad n < n → bad (before bad n) ≡ true)
          → bad (cond b (cond c n (suc n)) (before bad n)) ≡ true
      go true e true d k ih = d
      go true e false d k ih = absurd (omega (arith, k))
      go false e c d k ih = let other = eqb-false (before bad n) n e in let most = before-le n in ih (omega arith)

  before-all : (n : ℕ) → ((i : ℕ) → i < n → bad i ≡ false) → before bad n ≡ n
  unfolding before
  before-all zero h = refl
  before-all (suc n) h = rw (add-one n) at (before-next bad n (before-all n (λ i k. h i (omega arith))) (h n (omega arith)))

  pub before-first : (n : ℕ) → BeforeIsFirst bad n
  before-first n = record {
    all = ((λ e i h. before-good n i (rw e h)), before-all n);
    first = λ k h. (
      (λ e. (rw e at (before-bad n (rw e h)), (λ i l. before-good n i (rw e l)))),
      (λ w. before-stop bad k (before-all k w.1) w.0 n h),
    );
  }

  -- the test of a batch
  none-bad : (n : ℕ) → (ltb (before bad n) n ≡ false) ↔ ((i : ℕ) → i < n → bad i ≡ false)
  none-bad n = (
    (λ e.
        let most = before-le n in
        let least = ltb-false (before bad n) n e in
        (before-first n).all.0 (omega arith)),
    (λ h. let e = before-all n h in rw e (le-ltb n n (omega arith))),
  )

-- ---- the calls

-- a batch is refused by the checks before its entries or by an entry
entries-last : (cs : List Check) → Positive cs → (bad : ℕ → Bool) (n : ℕ) → entries_answer (first_refusal cs) bad n ≡ first_refusal (cs ++ refuse 6 (ltb (before bad n) n) ∷ [])
unfolding first_refusal
entries-last cs pos bad n = go (first_refusal cs) refl
  where
    b : Bool
    b = ltb (before bad n) n

    go : (k : ℕ) → first_refusal cs ≡ k → cond (eqb k 0) (cond b 6 0) k ≡ first_refusal (cs ++ refuse 6 b ∷ [])
    go zero e = sym (passed-append cs (refuse 6 b ∷ []) pos e)
    go (suc k) e =
        let some : eqb (suc k) 0 ≡ false = ne_eqb (suc k) 0 (λ z. omega (arith, z)) in
        rw some (sym (refused-append cs (refuse 6 b ∷ []) k e))

-- a list of checks whose entries come last
module _ (cs ys : List Check) {ds es : List Condition} (pos : Positive cs) (pos' : Positive ys) (bad : ℕ → Bool) (n : ℕ) {placed : Type 0} where
  pub batch-total : Tests cs ds → Tests ys es → (((i : ℕ) → i < n → bad i ≡ false) ↔ placed) → Total (entries_answer (first_refusal (cs ++ ys)) bad n) (ds ++ (es ++ refuse_unless 6 placed ∷ []))
  batch-total t u means answer =
      let e = entries-last (cs ++ ys) (positive-append cs ys pos pos') bad n ∙ ap first_refusal (append_assoc cs ys (refuse 6 (ltb (before bad n) n) ∷ [])) in
      let six : Tests (refuse 6 (ltb (before bad n) n) ∷ []) (refuse_unless 6 placed ∷ []) =
      test refl ((λ h. means.0 ((none-bad bad n).0 h)), (λ h. (none-bad bad n).1 (means.1 h))) (λ _. none) in
      let all = total (append t (λ _. append u (λ _. six))) answer in
      ((λ q. all.0 (q ∙ e)), (λ o. all.1 o ∙ sym e))

pub evaluation-total : (s : Spline) (map : List Condition) (HasPlace : List Float → Type 0) → Tests s.checks map → Positive s.checks
    → ((x : List Float) → (s.refuses x ≡ false) ↔ HasPlace x) → EvaluationTotal s map HasPlace
unfolding one_answer batch_answer gradient_batch_answer bad_at
evaluation-total s map HasPlace t pos place = record {
  one = λ x. total (append t (λ _. length-test s.axes (length x) (λ _. test refl (place (query s.axes x 1 0)) (λ _. none))));
  values = λ xs out.
      batch-total s.checks (length_check (s.axes * length out) (length xs)) pos (omega arith, tt) (bad_at s xs (length out)) (length out) t
      (length-test (s.axes * length out) (length xs) (λ _. none))
      ((λ h i k. (place (query s.axes xs (length out) i)).0 (h i k)), (λ h i k. (place (query s.axes xs (length out) i)).1 (h i k)));
  gradients = λ xs out.
      let n = length out / s.axes in
      batch-total s.checks (refuse 2 (not (eqb (length out % s.axes) 0)) ∷ length_check (length out) (length xs)) pos (omega arith, (omega arith, tt)) (bad_at s xs n) n t
      (length-test 0 (length out % s.axes) (λ _. length-test (length out) (length xs) (λ _. none)))
      ((λ h i k. (place (query s.axes xs n i)).0 (h i k)), (λ h i k. (place (query s.axes xs n i)).1 (h i k)));
}

-- what an answered query has
pub one-accepted : (s : Spline) → Positive s.checks → (x : List Float) → one_answer s x ≡ 0 → (first_refusal s.checks ≡ 0) × (length x ≡ s.axes)
unfolding one_answer
one-accepted s pos x e =
    let six = refuse 6 (s.refuses (query s.axes x 1 0)) ∷ [] in
    let p = both-passed s.checks (length_check s.axes (length x) ++ six) pos e in
    (p.0, (length-passed six s.axes (length x) p.1).0)
