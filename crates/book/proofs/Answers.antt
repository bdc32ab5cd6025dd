-- What an accepted begin shows, and what it leaves a line call to check: scratch, and whether the line is due. Assumes nothing.
use mathlib.Core.Path.{◌≡◌, sym, ◌∙◌}
use mathlib.Core.List.{List, [], ◌++◌}
use Prim.Native.Nat.{ℕ, ◌*◌, ◌≤◌}
use lib.ListN.{length, take}
use Rattle.shape.specs.Shape.{longest, size}
use Rattle.shape.specs.Checks.{Check, first_refusal, shape_checks, scratch_check, Positive}
use Rattle.shape.proofs.Checks.{length-passes, length-passed, scratch-passed}
use Rattle.shape.proofs.Accepted.{passed-append, prefix-passed, both-passed, accepted-append}
use Rattle.book.specs.LineCall.{Call, State, due_checks, begin_checks, begin_answer, call_checks, call_answer}

-- ---- begin, and a line call

pub record Ready (count : ℕ) (lens : List ℕ) (grid knots : List Check) : Type 0 where
  pub shape-passed : first_refusal (shape_checks count lens) ≡ 0
  pub grid-passed : first_refusal grid ≡ 0
  pub knots-passed : first_refusal knots ≡ 0

pub record BeginPassed (count : ℕ) (lens : List ℕ) (grid knots : List Check) (samples coefs ledger scratch : ℕ) : Type 0 where
  pub ready : Ready count lens grid knots
  pub samples-size : samples ≡ size (take count lens)
  pub coefs-size : coefs ≡ size (take count lens)
  pub ledger-size : ledger ≡ size (take count lens)
  pub scratch-room : 2 * longest (take count lens) ≤ scratch

module _ (count : ℕ) (lens : List ℕ) (grid knots : List Check) (pg : Positive grid) (pk : Positive knots) where
  pub begin-passed : (samples coefs ledger scratch : ℕ) → begin_answer count lens grid knots samples coefs ledger scratch ≡ 0
      → BeginPassed count lens grid knots samples coefs ledger scratch
  unfolding begin_checks
  begin-passed samples coefs ledger scratch e =
      let n : ℕ = size (take count lens) in
      let shape = prefix-passed (shape_checks count lens) _ e in
      let p = both-passed grid _ pg (sym (accepted-append count lens shape _) ∙ e) in
      let q = length-passed _ n coefs p.1 in
      let r = length-passed _ n ledger q.1 in
      let s = both-passed knots _ pk r.1 in
      let t = length-passed _ n samples s.1 in
      record {
        ready = record { shape-passed = shape; grid-passed = p.0; knots-passed = s.0 };
        samples-size = t.0;
        coefs-size = q.0;
        ledger-size = r.0;
        scratch-room = (scratch-passed [] (take count lens) scratch t.1).0;
      }

  module _ {A : Type 0} (call : Call A) (state : State A) where
    -- what is left to check after an accepted begin
    pub call-left : Ready count lens grid knots → length state.coefs ≡ size (take count lens) → length state.ledger ≡ size (take count lens)
        → call_answer count lens grid knots call state
        ≡ first_refusal (scratch_check (take count lens) (length call.scratch) ++ due_checks (take count lens) call.axis call.line state.ledger)
    unfolding call_checks
    call-left ready hc hl =
        accepted-append count lens ready.shape-passed _
        ∙ passed-append grid _ pg ready.grid-passed
        ∙ length-passes _ (size (take count lens)) (length state.coefs) hc
        ∙ length-passes _ (size (take count lens)) (length state.ledger) hl
        ∙ passed-append knots _ pk ready.knots-passed
