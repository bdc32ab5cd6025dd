-- The checks of a rectilinear fit, outcome by outcome. Assumes nothing.
use mathlib.Core.Path.{◌≡◌, sym, ◌∙◌}
use mathlib.Core.Bool.{Bool, true, false, not}
use mathlib.Core.List.{List, [], ◌++◌}
use Prim.Native.Nat.{ℕ, ◌*◌, ◌≤◌, ◌<◌}
use lib.ListN.{length, take}
use lib.Ieee.{Float}
use Rattle.shape.specs.Shape.{longest, size}
use Rattle.shape.specs.Checks.{Check, first_refusal, shape_checks, length_check, scratch_check}
use Rattle.shape.specs.Refusal.{refusal_number}
use Rattle.shape.specs.declared.answers.Refusal.{Refusal}
use Rattle.shape.proofs.Accepted.{refusal-append, accepted-append}
use Rattle.shape.proofs.Checks.{check-fails, check-passes, length-fails, length-passes, scratch-fails, scratch-passes}
use Rattle.knots.specs.Joined.{total, all_rise}
use Rattle.knots.specs.Checks.{grid_check, knots_check}
use Rattle.rectilinear.specs.Fit.{rectilinear_fit_checks}

-- the checks from each kind on
module _ (dims : List ℕ) (grid : List Float) (samples coefs scratch : ℕ) where
  abbrev from_scratch : List Check
  from_scratch = scratch_check dims scratch

  abbrev from_samples : List Check
  from_samples = length_check (size dims) samples ++ from_scratch

  abbrev from_knots : List Check
  from_knots = knots_check dims grid ++ from_samples

  abbrev from_coefs : List Check
  from_coefs = length_check (size dims) coefs ++ from_knots

  abbrev pub from_grid : List Check
  from_grid = grid_check dims grid ++ from_coefs

module _ (count : ℕ) (lens : List ℕ) (grid : List Float) (samples coefs scratch : ℕ) where
  abbrev Answered : ℕ → Type 0
  Answered n = n ≡ first_refusal (rectilinear_fit_checks count lens grid samples coefs scratch)

  pub fit-shape : (r : Refusal) → refusal_number r ≡ first_refusal (shape_checks count lens) → Answered (refusal_number r)
  unfolding rectilinear_fit_checks
  fit-shape r e = refusal-append r (shape_checks count lens) _ e

  -- once the shape has passed
  module _ (ok : first_refusal (shape_checks count lens) ≡ 0) where
    pub after-shape : first_refusal (rectilinear_fit_checks count lens grid samples coefs scratch) ≡ first_refusal (from_grid (take count lens) grid samples coefs scratch)
    unfolding rectilinear_fit_checks
    after-shape = accepted-append count lens ok (from_grid (take count lens) grid samples coefs scratch)

    pub fit-grid : (length grid ≡ total (take count lens) → ⊥) → Answered 2
    fit-grid h = length-fails _ (total (take count lens)) (length grid) h ∙ sym after-shape

    module _ (joined : length grid ≡ total (take count lens)) where
      after-grid : first_refusal (rectilinear_fit_checks count lens grid samples coefs scratch) ≡ first_refusal (from_coefs (take count lens) grid samples coefs scratch)
      after-grid = after-shape ∙ length-passes _ (total (take count lens)) (length grid) joined

      pub fit-coefs : (coefs ≡ size (take count lens) → ⊥) → Answered 2
      fit-coefs h = length-fails _ (size (take count lens)) coefs h ∙ sym after-grid

      module _ (same : coefs ≡ size (take count lens)) where
        after-coefs : first_refusal (rectilinear_fit_checks count lens grid samples coefs scratch) ≡ first_refusal (from_knots (take count lens) grid samples coefs scratch)
        after-coefs = after-grid ∙ length-passes _ (size (take count lens)) coefs same

        -- r is what the code finds of the knots
        module _ {r : Bool} (found : r ≡ all_rise grid (take count lens) count) (axes : length (take count lens) ≡ count) where
          pub fit-knots : not r ≡ true → Answered 5
          fit-knots h = check-fails _ 5 _ (rw (axes, ← found) h) ∙ sym after-coefs

          module _ (rise : not r ≡ false) where
            after-knots : first_refusal (rectilinear_fit_checks count lens grid samples coefs scratch) ≡ first_refusal (from_samples (take count lens) grid samples coefs scratch)
            after-knots = after-coefs ∙ check-passes _ 5 _ (rw (axes, ← found) rise)

            pub fit-samples : (samples ≡ size (take count lens) → ⊥) → Answered 2
            fit-samples h = length-fails _ (size (take count lens)) samples h ∙ sym after-knots

            module _ (as_many : samples ≡ size (take count lens)) where
              after-samples : first_refusal (rectilinear_fit_checks count lens grid samples coefs scratch) ≡ first_refusal (from_scratch (take count lens) grid samples coefs scratch)
              after-samples = after-knots ∙ length-passes _ (size (take count lens)) samples as_many

              pub fit-scratch : scratch < 2 * longest (take count lens) → Answered 4
              fit-scratch h = scratch-fails [] (take count lens) scratch h ∙ sym after-samples

              pub fit_passed : 2 * longest (take count lens) ≤ scratch → first_refusal (rectilinear_fit_checks count lens grid samples coefs scratch) ≡ 0
              unfolding first_refusal
              fit_passed h = after-samples ∙ scratch-passes [] (take count lens) scratch h
