-- The checks of a regular map's record, and what `place` answers, outcome by outcome. Assumes nothing.
use Rattle.std.specs.Prelude.{Result, Ok, Err}
use mathlib.Core.Path.{◌≡◌, refl, sym, ap, ◌∙◌}
use mathlib.Core.Bool.{cond}
use mathlib.Core.List.{List, [], ◌∷◌}
use Prim.Native.Nat.{ℕ, ◌≤◌, ◌<◌}
use native.Mathlib.Omega.{arith}
use lib.ListN.{take}
use lib.Ieee.{Float, Format}
use Rattle.shape.specs.Shape.{size}
use Rattle.shape.specs.Checks.{refuse, first_refusal, shape_checks, length_check, Positive}
use Rattle.shape.specs.Refusal.{refusal_number}
use Rattle.shape.specs.Sizes.{coeff_storage_len}
use Rattle.shape.specs.declared.answers.Refusal.{Refusal}
use Rattle.shape.specs.declared.answers.Refusal.TheVariants as Refusals
use Rattle.multibspline.specs.declared.saturation.Saturation.{Saturation}
use Rattle.regular_weights.specs.declared.place.Loc.{Loc}
use Rattle.regular_weights.specs.Place.{at, unrepresentable}
use Rattle.std.proofs.Common.{Option, Some, None}
use Rattle.evaluation.specs.Place.{place_checks}
use Rattle.evaluation.proofs.Placing.{place-refused, place_found, left_out, others-passed, storage-passes, place-checks, place-no-axis, place-axis}
use Rattle.regular_blocks.specs.Checks.{any_step_bad, map_checks, map_answer}
use Rattle.regular_axis.specs.Axis.{is_unrepresentable}
use Rattle.regular_map.specs.Place.{loc_at, record_checks, placed_loc, RegularPlaced}

-- ---- the checks of a record

module _ (count : ℕ) (lens : List ℕ) (steps : List Float) where
  -- their numbers are above 0
  pub record-numbered : Positive (record_checks count lens steps)
  record-numbered = (omega arith, (omega arith, (omega arith, (omega arith, tt))))

  -- those of the map, for as many coefficients as the shape wants
  pub record-answer : map_answer count lens steps (coeff_storage_len count lens) ≡ first_refusal (record_checks count lens steps)
  unfolding map_answer
  record-answer = left_out (shape_checks count lens) (length_check (size (take count lens)) (coeff_storage_len count lens)) (refuse 5 (any_step_bad (take count steps)) ∷ []) (omega arith, (omega arith, (omega arith, tt))) (omega arith, tt) (storage-passes count lens)

  -- an accepted map has an accepted record
  pub map-record : (coefs : ℕ) → first_refusal (map_checks count lens steps coefs) ≡ 0 → first_refusal (record_checks count lens steps) ≡ 0
  map-record coefs e = others-passed (shape_checks count lens) (length_check (size (take count lens)) coefs) (refuse 5 (any_step_bad (take count steps)) ∷ []) (omega arith, (omega arith, (omega arith, tt))) (omega arith, tt) e

  -- what is told by the checks of a map with as many coefficients as the shape wants
  module _ {coefs : ℕ} (sized : coefs ≡ coeff_storage_len count lens) where
    pub record-refused : (r : Refusal) → refusal_number r ≡ map_answer count lens steps coefs → refusal_number r ≡ first_refusal (record_checks count lens steps)
    record-refused r e = e ∙ ap (map_answer count lens steps) sized ∙ record-answer

    pub record-passed : ◌≡◌ {A = ℕ} 0 (map_answer count lens steps coefs) → first_refusal (record_checks count lens steps) ≡ 0
    record-passed e = sym (ap (map_answer count lens steps) sized ∙ record-answer) ∙ sym e

-- ---- the place on an axis

module _ (f : Format) (count : ℕ) (lens : List ℕ) (starts steps : List Float) (a : ℕ) (x : Float) where
  -- the check of the coordinate, by its place
  cell : {loc : Option Loc} → loc_at f lens starts steps a x ≡ loc → first_refusal (refuse 6 (is_unrepresentable (loc_at f lens starts steps a x)) ∷ []) ≡ cond (is_unrepresentable loc) 6 0
  unfolding first_refusal
  cell e = rw e

  pub placed-refused : (r : Refusal) → refusal_number r ≡ first_refusal (record_checks count lens steps) → RegularPlaced f count lens starts steps a x (Err r)
  placed-refused r e = place-refused r (place-checks (record_checks count lens steps) count a _ r e)

  module _ (ok : first_refusal (record_checks count lens steps) ≡ 0) where
    pub placed-no-axis : count ≤ a → RegularPlaced f count lens starts steps a x (Err Refusals.NoSuchLine)
    placed-no-axis h = place-refused Refusals.NoSuchLine (place-no-axis (record_checks count lens steps) count a _ (record-numbered count lens steps) ok h)

    module _ (h : a < count) where
      on-axis : {loc : Option Loc} → loc_at f lens starts steps a x ≡ loc → first_refusal (place_checks (record_checks count lens steps) count a (refuse 6 (is_unrepresentable (loc_at f lens starts steps a x)) ∷ [])) ≡ cond (is_unrepresentable loc) 6 0
      on-axis e = place-axis (record_checks count lens steps) count a _ (record-numbered count lens steps) ok h ∙ cell e

      pub placed_at : {loc : Option Loc} {sat : Saturation} {origin : ℕ} → loc ≡ loc_at f lens starts steps a x → loc ≡ at sat origin → RegularPlaced f count lens starts steps a x (Ok (sat, origin))
      placed_at e told = place_found (on-axis (sym e ∙ told)) (sym told ∙ e)

      pub placed-nowhere : {loc : Option Loc} → loc ≡ loc_at f lens starts steps a x → loc ≡ unrepresentable → RegularPlaced f count lens starts steps a x (Err Refusals.Unrepresentable)
      placed-nowhere e told = place-refused Refusals.Unrepresentable (sym (on-axis (sym e ∙ told)))

      -- on an axis of an accepted record the answer is the place
      pub placed-is : (r : Result (Saturation × ℕ) Refusal) → RegularPlaced f count lens starts steps a x r → placed_loc r ≡ loc_at f lens starts steps a x
      placed-is r w = go (loc_at f lens starts steps a x) refl
        where
          go : (loc : Option Loc) → loc_at f lens starts steps a x ≡ loc → placed_loc r ≡ loc_at f lens starts steps a x
          go (Some l) e = w.finds ∙ rw (on-axis e)
          go None e = w.finds ∙ rw (on-axis e, e)
