-- Demand 1 for the regular fit, and what an accepted one may take for granted. Assumes nothing.
use mathlib.Core.Path.{◌≡◌}
use mathlib.Core.List.{List}
use Prim.Native.Nat.{ℕ, ◌*◌, ◌≤◌}
use native.Mathlib.Omega.{arith}
use lib.ListN.{length, take}
use lib.Ieee.{Float, Format}
use Rattle.shape.specs.Shape.{longest, size}
use Rattle.shape.specs.Checks.{first_refusal, regular_fit_checks, Positive}
use Rattle.shape.specs.Usable.{Usable}
use Rattle.shape.proofs.Outcome.{Tests, none, total, all_hold, shape-test, length-test, scratch-test}
use Rattle.regular.specs.Fit.{regular_fit, regular_scratch}
use Rattle.regular.specs.Total.{fit_conditions, FitTotal}

-- what an accepted fit may take for granted
pub record InRange (count : ℕ) (lens : List ℕ) (samples coefs scratch : ℕ) : Type 0 where
  pub shape : Usable count lens
  pub coefs-are : coefs ≡ size (take count lens)
  pub samples-are : samples ≡ size (take count lens)
  pub scratch-room : 2 * longest (take count lens) ≤ scratch

module _ (count : ℕ) (lens : List ℕ) (samples coefs scratch : ℕ) where
  pub fit-numbered : Positive (regular_fit_checks count lens samples coefs scratch)
  unfolding regular_fit_checks
  fit-numbered = (omega arith, (omega arith, (omega arith, (omega arith, (omega arith, (omega arith, tt))))))

  pub fit-tests : length lens ≡ 4 → Tests (regular_fit_checks count lens samples coefs scratch) (fit_conditions count lens samples coefs scratch)
  unfolding regular_fit_checks
  fit-tests four =
      shape-test count lens four (λ _.
      length-test (size (take count lens)) coefs (λ _. length-test (size (take count lens)) samples (λ _. scratch-test (take count lens) scratch (λ _. none))))

  pub in-range : length lens ≡ 4 → first_refusal (regular_fit_checks count lens samples coefs scratch) ≡ 0 → InRange count lens samples coefs scratch
  in-range four e =
      let h = all_hold (fit-tests four) fit-numbered e in
      record {
        shape = record { some-axis = h.0.0; at-most-four = h.0.1; four-points = h.1.0; few-points = h.1.1.0 };
        coefs-are = h.1.1.1.0;
        samples-are = h.1.1.1.1.0;
        scratch-room = h.1.1.1.1.1.0;
      }

-- the fit on axes that are those of the shape
module _ (f : Format) {count count' : ℕ} {lens lens' : List ℕ} (ec : count' ≡ count) (el : lens' ≡ lens) (samples : List Float) where
  pub fit-of : {xs : List Float} → xs ≡ regular_fit f (take count' lens') samples → xs ≡ regular_fit f (take count lens) samples
  fit-of e = rw (ec, el) at e

  pub scratch-of : (scratch : List Float) {ss : List Float} → ss ≡ regular_scratch f (take count' lens') samples scratch → ss ≡ regular_scratch f (take count lens) samples scratch
  scratch-of scratch e = rw (ec, el) at e

pub fit-total : FitTotal
fit-total count lens samples coefs scratch four = total (fit-tests count lens samples coefs scratch four)
