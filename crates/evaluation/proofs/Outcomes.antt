-- What a call that evaluates a map answers, outcome by outcome. Assumes nothing.
--     told     what the checks of the map answered
use mathlib.Core.Path.{◌≡◌, refl, sym, ap, ◌∙◌}
use mathlib.Core.Bool.{Bool, true, false, cond, not}
use mathlib.Core.List.{List, [], ◌∷◌, ◌++◌}
use Prim.Native.Nat.{ℕ, ◌+◌, ◌*◌, ◌%◌, ◌≤◌, ◌<◌}
use native.Mathlib.Omega.{arith}
use lib.Dec.{eqb}
use lib.ListN.{length, get_or, set}
use lib.Ieee.{Float, nan}
use borrow.Author.Tests.{eq-eqb, ne_eqb}
use Rattle.shape.specs.Cells.{put}
use Rattle.shape.proofs.Cells.{put-ext}
use Rattle.shape.specs.Checks.{Check, refuse, first_refusal, length_check, Positive}
use Rattle.shape.specs.Refusal.{refusal_number}
use Rattle.shape.specs.declared.answers.Refusal.{Refusal}
use Rattle.shape.specs.declared.answers.Refusal.TheVariants as Refusals
use Rattle.shape.proofs.Accepted.{refusal-suc, refusal-append, passed-append}
use Rattle.multibspline.specs.Numbers.{f0}
use Rattle.evaluation.specs.Axes.{zeros, query}
use Rattle.evaluation.specs.Spline.{Spline, gradient, one_answer, OneValue, OneGradient, batch_answer, gradient_batch_answer}
use Rattle.evaluation.specs.Entries.{Answered, GradientAnswered}
use Rattle.evaluation.specs.Batch.{written, value_step, gradient_step}
use Rattle.evaluation.proofs.Entries.{axis-at}
use Rattle.evaluation.proofs.Batches.{written_same}

-- ---- a query whose lengths are right

module _ (s : Spline) (x : List Float) where
  pub value_found : {v : Float} → s.refuses x ≡ false → v ≡ s.value x → Answered s x 0 v
  value_found ok e = record { answers = rw ok; valued = rw ok e }

  pub value-refused : s.refuses x ≡ true → Answered s x 6 f0
  value-refused bad = record { answers = rw bad; valued = rw bad }

  pub gradient-refused : {answer : ℕ} {ps : List Float} → s.refuses x ≡ true → answer ≡ 6 → ps ≡ zeros → GradientAnswered s x answer ps
  gradient-refused bad ea ep = record { answers = rw bad ea; gradient = rw bad ep }

-- ---- the parts of a gradient, written one by one

module _ (s : Spline) (xs : List Float) (n i : ℕ) (out : List Float) where
  pub gradient-written : {ps out' : List Float} → s.axes ≤ 4 → ps ≡ gradient s (query s.axes xs n i) → out' ≡ put (λ k. k * n + i) (λ k. get_or ps k nan) s.axes out → out' ≡ gradient_step s xs n i out
  unfolding gradient_step
  gradient-written few g e = e ∙ put-ext (λ k. k * n + i) _ _ s.axes out (λ k h. rw g (axis-at f0 nan s.axes (s.part (query s.axes xs n i)) k h few))

-- ---- the entries of a block, by what was written for each

module _ (s : Spline) (xs : List Float) (n start r : ℕ) (out : List Float) {out' : List Float} where
  pub values-written : (v : ℕ → Float) → ((k : ℕ) → k < r → v k ≡ s.value (query s.axes xs n (start + k))) → out' ≡ written (λ k o. set o (start + k) (v k)) r out → out' ≡ written (λ k. value_step s xs n (start + k)) r out
  unfolding value_step
  values-written v same e = e ∙ written_same (λ k o. set o (start + k) (v k)) _ r out (λ k h o. ap (set o (start + k)) (same k h))

  pub gradients-written : (g : ℕ → ℕ → Float) → ((k j : ℕ) → k < r → j < s.axes → g k j ≡ s.part (query s.axes xs n (start + k)) j)
      → out' ≡ written (λ k o. put (λ j. j * n + (start + k)) (g k) s.axes o) r out → out' ≡ written (λ k. gradient_step s xs n (start + k)) r out
  unfolding gradient_step
  gradients-written g same e =
      e ∙ written_same (λ k o. put (λ j. j * n + (start + k)) (g k) s.axes o) _ r out (λ k h o. put-ext (λ j. j * n + (start + k)) _ _ s.axes o (λ j l. same k j h l))

-- ---- the checks of a map, and what follows them

module _ (checks ys : List Check) where
  -- a map that they refuse is refused whatever follows
  refused-first : (r : Refusal) → refusal_number r ≡ first_refusal checks → refusal_number r ≡ first_refusal (checks ++ ys)
  refused-first r e = refusal-append r checks ys e

  -- one that they accept leaves the answer to what follows
  passed_first : Positive checks → ◌≡◌ {A = ℕ} 0 (first_refusal checks) → first_refusal (checks ++ ys) ≡ first_refusal ys
  passed_first pos e = passed-append checks ys pos (sym e)

-- ---- a single query

-- by its refusal, and by its answer
held : {A : Type 0} (b : Bool) (none v : A) → cond b none v ≡ cond (eqb (cond b 6 0) 0) v none
held true none v = refl
held false none v = refl

module _ (s : Spline) (x : List Float) where
  refused-is : (r : Refusal) → refusal_number r ≡ one_answer s x → eqb (one_answer s x) 0 ≡ false
  refused-is r e = ne_eqb (one_answer s x) 0 (λ z. omega (arith, refusal-suc r, e))

  pub one-refused : (r : Refusal) → refusal_number r ≡ one_answer s x → OneValue s x (refusal_number r) f0
  one-refused r e = let b : eqb (refusal_number r) 0 ≡ false = rw e (refused-is r e) in record { answers = e; valued = rw b }

  pub one-gradient-refused : (r : Refusal) → refusal_number r ≡ one_answer s x → OneGradient s x (refusal_number r) zeros
  one-gradient-refused r e = let b : eqb (refusal_number r) 0 ≡ false = rw e (refused-is r e) in record { answers = e; gradient = rw b }

  -- what follows the checks of the map
  last : List Check
  last = length_check s.axes (length x) ++ refuse 6 (s.refuses (query s.axes x 1 0)) ∷ []

  pub one-checks : (r : Refusal) → refusal_number r ≡ first_refusal s.checks → refusal_number r ≡ one_answer s x
  unfolding one_answer last
  one-checks r e = refused-first s.checks last r e

  module _ (pos : Positive s.checks) (e : ◌≡◌ {A = ℕ} 0 (first_refusal s.checks)) where
    one-passed : one_answer s x ≡ first_refusal last
    unfolding one_answer last
    one-passed = passed_first s.checks last pos e

    pub one-length : (length x ≡ s.axes → ⊥) → refusal_number Refusals.DimensionMismatch ≡ one_answer s x
    unfolding first_refusal last
    one-length h = sym (one-passed ∙ rw (ne_eqb (length x) s.axes h))

    one-is : length x ≡ s.axes → one_answer s x ≡ cond (s.refuses (query s.axes x 1 0)) 6 0
    unfolding first_refusal last
    one-is h = one-passed ∙ rw (eq-eqb (length x) s.axes h)

    pub one-answered : length x ≡ s.axes → {answer : ℕ} {v : Float} → Answered s (query s.axes x 1 0) answer v → OneValue s x answer v
    one-answered h w = record { answers = w.answers ∙ sym (one-is h); valued = w.valued ∙ rw w.answers (held (s.refuses (query s.axes x 1 0)) f0 _) }

    pub one-gradient-answered : length x ≡ s.axes → {answer : ℕ} {ps : List Float} → GradientAnswered s (query s.axes x 1 0) answer ps → OneGradient s x answer ps
    one-gradient-answered h w =
        record { answers = w.answers ∙ sym (one-is h); gradient = w.gradient ∙ rw w.answers (held (s.refuses (query s.axes x 1 0)) zeros _) }

-- ---- batches: the answer of the checks before the entries

module _ (s : Spline) (xs out : ℕ) where
  pub batch-checks : (r : Refusal) → refusal_number r ≡ first_refusal s.checks → refusal_number r ≡ batch_answer s xs out
  unfolding batch_answer
  batch-checks r e = refused-first s.checks (length_check (s.axes * out) xs) r e

  -- what follows the checks of the map, of a gradient batch
  ends : List Check
  ends = refuse 2 (not (eqb (out % s.axes) 0)) ∷ length_check out xs

  pub gradient-checks : (r : Refusal) → refusal_number r ≡ first_refusal s.checks → refusal_number r ≡ gradient_batch_answer s xs out
  unfolding gradient_batch_answer ends
  gradient-checks r e = refused-first s.checks ends r e

  module _ (pos : Positive s.checks) (e : ◌≡◌ {A = ℕ} 0 (first_refusal s.checks)) where
    batch-first : batch_answer s xs out ≡ first_refusal (length_check (s.axes * out) xs)
    unfolding batch_answer
    batch-first = passed_first s.checks (length_check (s.axes * out) xs) pos e

    pub batch-length : (xs ≡ s.axes * out → ⊥) → refusal_number Refusals.DimensionMismatch ≡ batch_answer s xs out
    unfolding first_refusal
    batch-length h = sym (batch-first ∙ rw (ne_eqb xs (s.axes * out) h))

    pub batch-passed : xs ≡ s.axes * out → batch_answer s xs out ≡ 0
    unfolding first_refusal
    batch-passed h = batch-first ∙ rw (eq-eqb xs (s.axes * out) h)

    gradient-first : gradient_batch_answer s xs out ≡ first_refusal ends
    unfolding gradient_batch_answer ends
    gradient-first = passed_first s.checks ends pos e

    pub gradient-whole : (out % s.axes ≡ 0 → ⊥) → refusal_number Refusals.DimensionMismatch ≡ gradient_batch_answer s xs out
    unfolding first_refusal ends
    gradient-whole h = sym (gradient-first ∙ rw (ne_eqb (out % s.axes) 0 h))

    pub gradient-length : out % s.axes ≡ 0 → (xs ≡ out → ⊥) → refusal_number Refusals.DimensionMismatch ≡ gradient_batch_answer s xs out
    unfolding first_refusal ends
    gradient-length z h = sym (gradient-first ∙ rw (eq-eqb (out % s.axes) 0 z, ne_eqb xs out h))

    pub gradient-passed : out % s.axes ≡ 0 → xs ≡ out → gradient_batch_answer s xs out ≡ 0
    unfolding first_refusal ends
    gradient-passed z h = gradient-first ∙ rw (eq-eqb (out % s.axes) 0 z, eq-eqb xs out h)
