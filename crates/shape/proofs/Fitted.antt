-- What a call that fits leaves, from the answer of its checks. Assumes nothing.
use mathlib.Core.Path.{◌≡◌, sym}
use mathlib.Core.Bool.{true, false}
use mathlib.Core.List.{List}
use Prim.Native.Nat.{ℕ}
use native.Mathlib.Omega.{arith}
use lib.Dec.{eqb}
use borrow.Author.Tests.{eq-eqb, ne_eqb}
use Rattle.shape.specs.Fit.{Fitted}
use Rattle.shape.specs.Refusal.{refusal_number}
use Rattle.shape.specs.declared.answers.Refusal.{Refusal}
use Rattle.shape.proofs.Accepted.{refusal-suc}

module _ {A : Type 0} {expected : ℕ} {fitted left coefs scratch : List A} where
  pub fitted-refused : (r : Refusal) → refusal_number r ≡ expected → Fitted expected fitted left coefs scratch (refusal_number r) coefs scratch
  fitted-refused r e =
      let some : eqb expected 0 ≡ false = ne_eqb expected 0 (λ z. omega (arith, refusal-suc r, e, z)) in
      record { answers = e; leaves = record { coefficients = rw some; scratch_after = rw some } }

  pub fitted-accepted : {coefs' scratch' : List A} → ◌≡◌ {A = ℕ} 0 expected → coefs' ≡ fitted → scratch' ≡ left → Fitted expected fitted left coefs scratch 0 coefs' scratch'
  fitted-accepted e ec es =
      let all : eqb expected 0 ≡ true = eq-eqb expected 0 (sym e) in
      record { answers = e; leaves = record { coefficients = rw all ec; scratch_after = rw all es } }
