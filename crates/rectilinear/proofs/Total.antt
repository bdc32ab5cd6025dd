-- Demand 1 for the rectilinear fit, and what an accepted one may take for granted. Assumes nothing.
use mathlib.Core.Path.{◌≡◌, refl}
use mathlib.Core.Logic.{◌↔◌}
use mathlib.Core.Bool.{true, false, not}
use mathlib.Core.List.{List, ◌∷◌, ◌++◌}
use Prim.Native.Nat.{ℕ, ◌+◌, ◌*◌, ◌≤◌}
use native.Mathlib.Omega.{arith}
use borrow.Author.Tests.{not-false}
use lib.ListN.{length, take}
use lib.Ieee.{Float, Format}
use Rattle.shape.specs.Shape.{longest, size}
use Rattle.shape.specs.Checks.{Check, first_refusal, Positive}
use Rattle.shape.specs.Usable.{Usable}
use Rattle.shape.specs.Outcome.{Condition}
use Rattle.shape.proofs.Accepted.{axes-are}
use Rattle.shape.proofs.Outcome.{Tests, none, test, all_hold, shape-test, length-test, scratch-test}
use Rattle.shape.proofs.Outcome as Outcome
use Rattle.knots.specs.Joined.{total, knots_of, all_rise}
use Rattle.knots.specs.Checks.{knots_check}
use Rattle.knots.proofs.Increase.{in_order, rises-of}
use Rattle.knots.proofs.Totals.{axis-rises, all-rise}
use Rattle.rectilinear.specs.Fit.{rectilinear_fit, rectilinear_scratch, rectilinear_fit_checks}
use Rattle.rectilinear.specs.Total.{Rising, knots_condition, fit_conditions, FitTotal}

-- ---- the knots

module _ (count : ℕ) (lens : List ℕ) (grid : List Float) where
  pub rising : all_rise grid (take count lens) count ≡ true → Rising count lens grid
  rising e a h i b = in_order (knots_of grid (take count lens) a) (axis-rises grid (take count lens) count e a h) i (i + 1) (omega arith) b

  pub all-rising : Rising count lens grid → all_rise grid (take count lens) count ≡ true
  all-rising r = all-rise grid (take count lens) count (λ a h. rises-of (knots_of grid (take count lens) a) (r a h))

  knots-rise : length lens ≡ 4 → Usable count lens → (not (all_rise grid (take count lens) (length (take count lens))) ≡ false) ↔ Rising count lens grid
  knots-rise four u =
      let axes = axes-are count lens four u in (
        (λ e. rising (rw axes at (not-false (all_rise grid (take count lens) (length (take count lens))) e))),
        (λ r. rw (axes, all-rising r)),
      )

  pub knots-test : {cs : List Check} {ds : List Condition} → length lens ≡ 4 → Usable count lens → (Rising count lens grid → Tests cs ds) → Tests (knots_check (take count lens) grid ++ cs) (knots_condition count lens grid ∷ ds)
  knots-test four u rest = test refl (knots-rise four u) rest

-- ---- the fit

-- what an accepted fit may take for granted
pub record FitAccepted (count : ℕ) (lens : List ℕ) (grid : List Float) (samples coefs scratch : ℕ) : Type 0 where
  pub shape : Usable count lens
  pub joined : length grid ≡ total (take count lens)
  pub coefs-sized : coefs ≡ size (take count lens)
  pub rising : Rising count lens grid
  pub samples-sized : samples ≡ size (take count lens)
  pub room : 2 * longest (take count lens) ≤ scratch

module _ (count : ℕ) (lens : List ℕ) (grid : List Float) (samples coefs scratch : ℕ) where
  fit-numbered : Positive (rectilinear_fit_checks count lens grid samples coefs scratch)
  unfolding rectilinear_fit_checks
  fit-numbered = (omega arith, (omega arith, (omega arith, (omega arith, (omega arith, (omega arith, (omega arith, (omega arith, tt))))))))

  module _ (four : length lens ≡ 4) where
    fit-tests : Tests (rectilinear_fit_checks count lens grid samples coefs scratch) (fit_conditions count lens grid samples coefs scratch)
    unfolding rectilinear_fit_checks
    fit-tests =
        shape-test count lens four (λ u.
        length-test (total (take count lens)) (length grid) (λ _.
        length-test (size (take count lens)) coefs (λ _.
        knots-test count lens grid four u (λ _.
        length-test (size (take count lens)) samples (λ _.
        scratch-test (take count lens) scratch (λ _. none))))))

    pub fit-accepted : first_refusal (rectilinear_fit_checks count lens grid samples coefs scratch) ≡ 0 → FitAccepted count lens grid samples coefs scratch
    fit-accepted e =
        let h = all_hold fit-tests fit-numbered e in
        record {
          shape = record { some-axis = h.0.0; at-most-four = h.0.1; four-points = h.1.0; few-points = h.1.1.0 };
          joined = h.1.1.1.0;
          coefs-sized = h.1.1.1.1.0;
          rising = h.1.1.1.1.1.0;
          samples-sized = h.1.1.1.1.1.1.0;
          room = h.1.1.1.1.1.1.1.0;
        }

    pub accepted-rise : FitAccepted count lens grid samples coefs scratch → all_rise grid (take count lens) count ≡ true
    accepted-rise w = all-rising count lens grid w.rising

-- the fit on axes that are those of the shape
module _ (f : Format) (grid : List Float) {count count' : ℕ} {lens lens' : List ℕ} (ec : count' ≡ count) (el : lens' ≡ lens) (samples : List Float) where
  pub fit-of : {xs : List Float} → xs ≡ rectilinear_fit f grid (take count' lens') samples → xs ≡ rectilinear_fit f grid (take count lens) samples
  fit-of e = rw (ec, el) at e

  pub scratch-of : (scratch : List Float) {ss : List Float} → ss ≡ rectilinear_scratch f grid (take count' lens') samples scratch → ss ≡ rectilinear_scratch f grid (take count lens) samples scratch
  scratch-of scratch e = rw (ec, el) at e

pub fit-total : FitTotal
fit-total count lens grid samples coefs scratch four = Outcome.total (fit-tests count lens grid samples coefs scratch four)
