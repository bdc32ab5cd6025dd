-- The checks of a regular fit, outcome by outcome. Assumes nothing.
use mathlib.Core.Path.{◌≡◌, sym, ◌∙◌}
use mathlib.Core.List.{List, [], ◌++◌}
use Prim.Native.Nat.{ℕ, ◌*◌, ◌≤◌, ◌<◌}
use lib.ListN.{take}
use Rattle.shape.specs.Shape.{longest, size}
use Rattle.shape.specs.Checks.{first_refusal, shape_checks, length_check, scratch_check, regular_fit_checks}
use Rattle.shape.specs.Refusal.{refusal_number}
use Rattle.shape.specs.declared.answers.Refusal.{Refusal}
use Rattle.shape.proofs.Accepted.{refusal-append, accepted-append}
use Rattle.shape.proofs.Checks.{length-fails, length-passes, scratch-fails, scratch-passes}

module _ (count : ℕ) (lens : List ℕ) (samples coefs scratch : ℕ) where
  pub fit-shape : (r : Refusal) → refusal_number r ≡ first_refusal (shape_checks count lens) → refusal_number r ≡ first_refusal (regular_fit_checks count lens samples coefs scratch)
  unfolding regular_fit_checks
  fit-shape r e = refusal-append r (shape_checks count lens) _ e

  -- once the shape has passed
  module _ (ok : first_refusal (shape_checks count lens) ≡ 0) where
    after-shape : first_refusal (regular_fit_checks count lens samples coefs scratch)
        ≡ first_refusal (length_check (size (take count lens)) coefs ++ (length_check (size (take count lens)) samples ++ scratch_check (take count lens) scratch))
    unfolding regular_fit_checks
    after-shape = accepted-append count lens ok (length_check (size (take count lens)) coefs ++ (length_check (size (take count lens)) samples ++ scratch_check (take count lens) scratch))

    pub fit-coefs : (coefs ≡ size (take count lens) → ⊥) → ◌≡◌ {A = ℕ} 2 (first_refusal (regular_fit_checks count lens samples coefs scratch))
    fit-coefs h = length-fails _ (size (take count lens)) coefs h ∙ sym after-shape

    module _ (same : coefs ≡ size (take count lens)) where
      after-coefs : first_refusal (regular_fit_checks count lens samples coefs scratch) ≡ first_refusal (length_check (size (take count lens)) samples ++ scratch_check (take count lens) scratch)
      after-coefs = after-shape ∙ length-passes _ (size (take count lens)) coefs same

      pub fit-samples : (samples ≡ size (take count lens) → ⊥) → ◌≡◌ {A = ℕ} 2 (first_refusal (regular_fit_checks count lens samples coefs scratch))
      fit-samples h = length-fails _ (size (take count lens)) samples h ∙ sym after-coefs

      module _ (as_many : samples ≡ size (take count lens)) where
        after-samples : first_refusal (regular_fit_checks count lens samples coefs scratch) ≡ first_refusal (scratch_check (take count lens) scratch)
        after-samples = after-coefs ∙ length-passes _ (size (take count lens)) samples as_many

        pub fit-scratch : scratch < 2 * longest (take count lens) → ◌≡◌ {A = ℕ} 4 (first_refusal (regular_fit_checks count lens samples coefs scratch))
        fit-scratch h = scratch-fails [] (take count lens) scratch h ∙ sym after-samples

        pub fit_passed : 2 * longest (take count lens) ≤ scratch → first_refusal (regular_fit_checks count lens samples coefs scratch) ≡ 0
        unfolding first_refusal
        fit_passed h = after-samples ∙ scratch-passes [] (take count lens) scratch h
