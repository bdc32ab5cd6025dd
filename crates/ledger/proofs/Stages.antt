-- The checks of begin and of the line call, kind after kind, from what the code is answered for each kind. Assumes nothing.
use Rattle.std.specs.Prelude.{Result, Ok, Err}
use mathlib.Core.Path.{◌≡◌, refl, sym, ap, ◌∙◌}
use mathlib.Core.Bool.{false}
use mathlib.Core.List.{List, [], ◌++◌, append_assoc}
use Prim.Native.Nat.{ℕ, ◌*◌, ◌≤◌, ◌<◌}
use native.Mathlib.Omega.{arith}
use lib.Dec.{eqb}
use lib.ListN.{length, take}
use borrow.Author.Tests.{ne_eqb}
use Rattle.shape.specs.Shape.{longest, size}
use Rattle.shape.specs.Checks.{Check, first_refusal, shape_checks, length_check, scratch_check, Positive}
use Rattle.shape.specs.Usable.{Usable}
use Rattle.shape.specs.Refusal.{refusal_number, answer_number}
use Rattle.shape.specs.declared.answers.Refusal.{Refusal}
use Rattle.shape.specs.declared.answers.Refusal.TheVariants.{AxisCount, DimensionMismatch, TooManyPoints, ScratchTooSmall, NotIncreasing, Unrepresentable, NoSuchLine, AlreadySolved, NotDue}
use Rattle.shape.proofs.Checks.{length-fails, length-passes, length-passed, scratch-fails, scratch-passes, scratch-passed}
use Rattle.shape.proofs.Accepted.{refusal-suc, refusal-append, prefix-passed, passed-append, both-passed, positive-append, accepted-append, usable}
use Rattle.book.specs.LineCall.{Call, State, due_checks, begin_checks, begin_answer, call_checks, call_answer}
use Rattle.book.proofs.Answers.{Ready}
use Rattle.ledger.specs.Ready.{ready_checks, call_ready_checks}

-- ---- what an answer says

pub refusal-some : (r : Refusal) → refusal_number r ≡ 0 → ⊥
refusal-some r z = omega (arith, refusal-suc r, z)

pub answer-small : {A : Type 0} (x : Result A Refusal) → answer_number x < 256
answer-small (Ok found) = omega arith
answer-small (Err AxisCount) = omega arith
answer-small (Err DimensionMismatch) = omega arith
answer-small (Err TooManyPoints) = omega arith
answer-small (Err ScratchTooSmall) = omega arith
answer-small (Err NotIncreasing) = omega arith
answer-small (Err Unrepresentable) = omega arith
answer-small (Err NoSuchLine) = omega arith
answer-small (Err AlreadySolved) = omega arith
answer-small (Err NotDue) = omega arith

pub refusal-not-0 : (r : Refusal) → eqb (refusal_number r) 0 ≡ false
refusal-not-0 r = ne_eqb (refusal_number r) 0 (refusal-some r)

-- ---- the lengths of two buffers, against a length that the code works out

module _ (wanted first second points : ℕ) (is : points ≡ wanted) where
  pub two-first : (first ≡ points → ⊥) → ◌≡◌ {A = ℕ} 2 (first_refusal (length_check wanted first ++ length_check wanted second))
  two-first h = length-fails (length_check wanted second) wanted first (λ e. h (e ∙ sym is))

  module _ (same : first ≡ points) where
    pub two-second : (second ≡ points → ⊥) → ◌≡◌ {A = ℕ} 2 (first_refusal (length_check wanted first ++ length_check wanted second))
    two-second h = length-fails [] wanted second (λ e. h (e ∙ sym is)) ∙ sym (length-passes (length_check wanted second) wanted first (same ∙ is))

    pub two-passed : second ≡ points → ◌≡◌ {A = ℕ} 0 (first_refusal (length_check wanted first ++ length_check wanted second))
    unfolding first_refusal
    two-passed same₂ = sym (length-passes (length_check wanted second) wanted first (same ∙ is) ∙ length-passes [] wanted second (same₂ ∙ is))

-- where they pass, the lengths agree
pub two-agree : (wanted first second : ℕ) → first_refusal (length_check wanted first ++ length_check wanted second) ≡ 0 → (first ≡ wanted) × (second ≡ wanted)
two-agree wanted first second e =
    let p = length-passed (length_check wanted second) wanted first e in
    (p.0, (length-passed [] wanted second p.1).0)

-- ---- the lengths of samples and scratch, against those that the code works out

module _ (dims : List ℕ) (scratch room : ℕ) (is : room ≡ 2 * longest dims) where
  pub scratch-short : scratch < room → ◌≡◌ {A = ℕ} 4 (first_refusal (scratch_check dims scratch))
  scratch-short h = scratch-fails [] dims scratch (rw is at h)

  pub scratch-enough : room ≤ scratch → ◌≡◌ {A = ℕ} 0 (first_refusal (scratch_check dims scratch))
  unfolding first_refusal
  scratch-enough h = sym (scratch-passes [] dims scratch (rw is at h))

module _ (dims : List ℕ) (rest : List Check) (samples points : ℕ) (is : points ≡ size dims) where
  pub samples-differ : (samples ≡ points → ⊥) → ◌≡◌ {A = ℕ} 2 (first_refusal (length_check (size dims) samples ++ rest))
  samples-differ h = length-fails rest (size dims) samples (λ e. h (e ∙ sym is))

  pub samples-agree : samples ≡ points → {n : ℕ} → n ≡ first_refusal rest → n ≡ first_refusal (length_check (size dims) samples ++ rest)
  samples-agree same e = e ∙ sym (length-passes rest (size dims) samples (same ∙ is))

-- ---- what begin and the line call check first: shape, joined grid, coefficients and ledger, knots

pub none-refuse : first_refusal [] ≡ 0
unfolding first_refusal
none-refuse = refl

module _ (count : ℕ) (lens : List ℕ) (grid knots : List Check) (coefs ledger : ℕ) where
  abbrev Answered : ℕ → Type 0
  Answered n = n ≡ first_refusal (ready_checks count lens grid knots coefs ledger)

  -- the lengths of coefficients and ledger
  abbrev held : List Check
  held = length_check (size (take count lens)) coefs ++ length_check (size (take count lens)) ledger

  pub at-shape : (r : Refusal) → refusal_number r ≡ first_refusal (shape_checks count lens) → Answered (refusal_number r)
  unfolding ready_checks
  at-shape r e = refusal-append r (shape_checks count lens) _ e

  module _ (ok : first_refusal (shape_checks count lens) ≡ 0) where
    after-shape : first_refusal (ready_checks count lens grid knots coefs ledger) ≡ first_refusal (grid ++ (held ++ knots))
    unfolding ready_checks
    after-shape = accepted-append count lens ok _

    pub at-grid : (r : Refusal) → refusal_number r ≡ first_refusal grid → Answered (refusal_number r)
    at-grid r e = refusal-append r grid _ e ∙ sym after-shape

    module _ (pg : Positive grid) (grid-ok : first_refusal grid ≡ 0) where
      after-grid : first_refusal (ready_checks count lens grid knots coefs ledger) ≡ first_refusal (held ++ knots)
      after-grid = after-shape ∙ passed-append grid _ pg grid-ok

      pub at_held : (r : Refusal) → refusal_number r ≡ first_refusal held → Answered (refusal_number r)
      at_held r e = refusal-append r held _ e ∙ sym after-grid

      pub at-knots : first_refusal held ≡ 0 → {n : ℕ} → n ≡ first_refusal knots → Answered n
      at-knots held-ok e = e ∙ sym (after-grid ∙ passed-append held knots (omega arith, (omega arith, tt)) held-ok)

  -- where all pass
  module _ (pg : Positive grid) (pk : Positive knots) where
    ready-positive : Positive (ready_checks count lens grid knots coefs ledger)
    unfolding ready_checks
    ready-positive = (omega arith, (omega arith, (omega arith, positive-append grid _ pg (omega arith, (omega arith, pk)))))

    pub ready-passed : first_refusal (ready_checks count lens grid knots coefs ledger) ≡ 0 → Ready count lens grid knots × (coefs ≡ size (take count lens)) × (ledger ≡ size (take count lens))
    unfolding ready_checks
    ready-passed e =
        let shape = prefix-passed (shape_checks count lens) _ e in
        let p = both-passed grid _ pg (sym (accepted-append count lens shape _) ∙ e) in
        let q = length-passed _ (size (take count lens)) coefs p.1 in
        let r = length-passed knots (size (take count lens)) ledger q.1 in
        (record { shape-passed = shape; grid-passed = p.0; knots-passed = r.1 }, q.0, r.0)

    -- ---- and what comes last: samples and scratch, or scratch

    module _ (last : List Check) {answer : ℕ} (is : answer ≡ first_refusal (ready_checks count lens grid knots coefs ledger ++ last)) where
      pub not-ready : (r : Refusal) → refusal_number r ≡ first_refusal (ready_checks count lens grid knots coefs ledger) → refusal_number r ≡ answer
      not-ready r e = refusal-append r (ready_checks count lens grid knots coefs ledger) last e ∙ sym is

      pub then-last : ◌≡◌ {A = ℕ} 0 (first_refusal (ready_checks count lens grid knots coefs ledger)) → {n : ℕ} → n ≡ first_refusal last → n ≡ answer
      then-last e e₂ = e₂ ∙ sym (is ∙ passed-append (ready_checks count lens grid knots coefs ledger) last ready-positive (sym e))

module _ (count : ℕ) (lens : List ℕ) (grid knots : List Check) where
  pub begin-ready : (samples coefs ledger scratch : ℕ)
      → begin_answer count lens grid knots samples coefs ledger scratch
      ≡ first_refusal (ready_checks count lens grid knots coefs ledger ++ (length_check (size (take count lens)) samples ++ scratch_check (take count lens) scratch))
  unfolding begin_checks ready_checks
  begin-ready samples coefs ledger scratch = ap (λ (xs : List Check). first_refusal (shape_checks count lens ++ xs)) (sym (append_assoc grid _ _))

-- ---- all that a line call checks but the line itself

-- where they pass
pub record CallReady (count : ℕ) (lens : List ℕ) (grid knots : List Check) (coefs ledger scratch : ℕ) : Type 0 where
  pub shape : Usable count lens
  pub ready : Ready count lens grid knots
  pub coefs-size : coefs ≡ size (take count lens)
  pub ledger-size : ledger ≡ size (take count lens)
  pub scratch-room : 2 * longest (take count lens) ≤ scratch

module _ (count : ℕ) (lens : List ℕ) (grid knots : List Check) where
  pub call-ready-is : (coefs ledger scratch : ℕ)
      → first_refusal (call_ready_checks count lens grid knots coefs ledger scratch)
      ≡ first_refusal (ready_checks count lens grid knots coefs ledger ++ scratch_check (take count lens) scratch)
  unfolding call_ready_checks
  call-ready-is coefs ledger scratch = refl

  module _ (pg : Positive grid) (pk : Positive knots) where
    module _ (coefs ledger scratch : ℕ) where
      call-positive : Positive (call_ready_checks count lens grid knots coefs ledger scratch)
      unfolding call_ready_checks
      call-positive = positive-append (ready_checks count lens grid knots coefs ledger) _ (ready-positive count lens grid knots coefs ledger pg pk) (omega arith, tt)

      pub call-ready : length lens ≡ 4 → first_refusal (call_ready_checks count lens grid knots coefs ledger scratch) ≡ 0 → CallReady count lens grid knots coefs ledger scratch
      unfolding call_ready_checks
      call-ready four e =
          let p = both-passed (ready_checks count lens grid knots coefs ledger) _ (ready-positive count lens grid knots coefs ledger pg pk) e in
          let q = ready-passed count lens grid knots coefs ledger pg pk p.0 in
          record {
            shape = usable count lens four q.0.shape-passed;
            ready = q.0;
            coefs-size = q.1;
            ledger-size = q.2;
            scratch-room = (scratch-passed [] (take count lens) scratch p.1).0;
          }

      -- they do after an accepted begin
      pub begun-ready : (samples : ℕ) → begin_answer count lens grid knots samples coefs ledger scratch ≡ 0
          → first_refusal (call_ready_checks count lens grid knots coefs ledger scratch) ≡ 0
      unfolding call_ready_checks
      begun-ready samples e =
          let positive = ready-positive count lens grid knots coefs ledger pg pk in
          let p = both-passed (ready_checks count lens grid knots coefs ledger) _ positive (sym (begin-ready count lens grid knots samples coefs ledger scratch) ∙ e) in
          passed-append (ready_checks count lens grid knots coefs ledger) _ positive p.0 ∙ (length-passed (scratch_check (take count lens) scratch) (size (take count lens)) samples p.1).1

    module _ {A : Type 0} (call : Call A) (state : State A) where
      call-checks : call_answer count lens grid knots call state
          ≡ first_refusal (call_ready_checks count lens grid knots (length state.coefs) (length state.ledger) (length call.scratch)
          ++ due_checks (take count lens) call.axis call.line state.ledger)
      unfolding call_checks ready_checks call_ready_checks
      call-checks =
          ap (λ (xs : List Check). first_refusal (shape_checks count lens ++ xs)) (sym (append_assoc grid _ _))
          ∙ ap first_refusal (sym (append_assoc (ready_checks count lens grid knots (length state.coefs) (length state.ledger)) _ _))

      -- a call that they refuse, and what is left to check where they pass: the line
      pub call-not-ready : (r : Refusal) → refusal_number r ≡ first_refusal (call_ready_checks count lens grid knots (length state.coefs) (length state.ledger) (length call.scratch))
          → refusal_number r ≡ call_answer count lens grid knots call state
      call-not-ready r e =
          refusal-append r (call_ready_checks count lens grid knots (length state.coefs) (length state.ledger) (length call.scratch)) _ e ∙ sym call-checks

      pub line-left : first_refusal (call_ready_checks count lens grid knots (length state.coefs) (length state.ledger) (length call.scratch)) ≡ 0
          → call_answer count lens grid knots call state ≡ first_refusal (due_checks (take count lens) call.axis call.line state.ledger)
      line-left ok =
          call-checks
          ∙ passed-append (call_ready_checks count lens grid knots (length state.coefs) (length state.ledger) (length call.scratch)) _ (call-positive (length state.coefs) (length state.ledger) (length call.scratch)) ok
