-- A line call keeps the lengths of what it is lent: coefficients, ledger and scratch. Assumes nothing.
use mathlib.Core.Path.{◌≡◌, refl}
use mathlib.Core.Bool.{Bool, true, false, cond}
use mathlib.Core.List.{List}
use Prim.Native.Nat.{ℕ}
use lib.Dec.{eqb}
use lib.ListN.{length, take}
use Rattle.shape.specs.Shape.{longest, points, stride}
use Rattle.shape.specs.Checks.{Check}
use Rattle.shape.proofs.Scratch.{length-scratch}
use Rattle.shape.proofs.Fit.{length-solve_line}
use Rattle.book.specs.LineCall.{Call, State, call_answer, line_call, call_scratch}
use Rattle.book.proofs.Bytes.{length-bumped}

keeps : {X : Type 0} (f : X → ℕ) (b : Bool) (x y : X) → f x ≡ f y → f (cond b x y) ≡ f y
keeps f true x y e = e
keeps f false x y e = refl

module _ (count : ℕ) (lens : List ℕ) (grid knots : List Check) {A : Type 0} (o : A) (solve : ℕ → (ℕ → A) → ℕ → A) (call : Call A) (state : State A) where
  pub length-coefs : length (line_call count lens grid knots o solve call state).coefs ≡ length state.coefs
  unfolding line_call
  length-coefs =
      keeps (λ (s : State A). length s.coefs) (eqb (call_answer count lens grid knots call state) 0) _ state
      (length-solve_line o (solve call.axis) (points (take count lens) call.axis) (stride (take count lens) call.axis) call.line state.coefs)

  pub length-ledger : length (line_call count lens grid knots o solve call state).ledger ≡ length state.ledger
  unfolding line_call
  length-ledger =
      keeps (λ (s : State A). length s.ledger) (eqb (call_answer count lens grid knots call state) 0) _ state
      (length-bumped (take count lens) call.axis call.line state.ledger)

  pub length-call-scratch : (upper : ℕ → (ℕ → A) → ℕ → A) → length (call_scratch count lens grid knots o solve upper call state) ≡ length call.scratch
  unfolding call_scratch
  length-call-scratch upper =
      keeps (λ (s : List A). length s) (eqb (call_answer count lens grid knots call state) 0) _ call.scratch
      (length-scratch (longest (take count lens)) _ _ (points (take count lens) call.axis) call.scratch)
