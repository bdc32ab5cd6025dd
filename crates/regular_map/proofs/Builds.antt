-- What building from samples answers, by the answer of the fit. Assumes nothing.
use mathlib.Core.Path.{◌≡◌, refl, sym, ◌∙◌}
use mathlib.Core.List.{List, [], ◌∷◌}
use Prim.Native.Nat.{ℕ}
use native.Mathlib.Omega.{arith}
use lib.ListN.{length, take}
use lib.Ieee.{Float}
use Rattle.shape.specs.Checks.{refuse, first_refusal, regular_fit_checks}
use Rattle.shape.specs.Refusal.{refusal_number}
use Rattle.shape.specs.declared.answers.Refusal.{Refusal}
use Rattle.shape.proofs.Accepted.{refusal-append, passed-append, usable-accepted}
use Rattle.regular.proofs.Total.{in-range}
use Rattle.regular_blocks.specs.Checks.{any_step_bad, map_answer, from_values_answer}
use Rattle.regular_map.proofs.Steps.{map_steps}

module _ (count : ℕ) (lens : List ℕ) (steps : List Float) (samples coefs scratch : ℕ) where
  pub values-refused : (r : Refusal) → refusal_number r ≡ first_refusal (regular_fit_checks count lens samples coefs scratch) → refusal_number r ≡ from_values_answer count lens steps samples coefs scratch
  unfolding from_values_answer
  values-refused r e = refusal-append r (regular_fit_checks count lens samples coefs scratch) (refuse 5 (any_step_bad (take count steps)) ∷ []) e

  pub values-passed : length lens ≡ 4 → ◌≡◌ {A = ℕ} 0 (first_refusal (regular_fit_checks count lens samples coefs scratch)) → from_values_answer count lens steps samples coefs scratch ≡ map_answer count lens steps coefs
  unfolding from_values_answer regular_fit_checks first_refusal
  values-passed four e =
      let none : first_refusal (regular_fit_checks count lens samples coefs scratch) ≡ 0 = sym e in
      let r = in-range count lens samples coefs scratch four none in
      let ok = usable-accepted count lens four r.shape in
      passed-append (regular_fit_checks count lens samples coefs scratch) (refuse 5 (any_step_bad (take count steps)) ∷ []) (omega arith, (omega arith, (omega arith, (omega arith, (omega arith, (omega arith, tt)))))) none
      ∙ sym (map_steps count lens steps coefs ok r.coefs-are refl)
