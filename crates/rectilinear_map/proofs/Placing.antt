-- The checks of a rectilinear map's record with its joined grid, and what `place` answers, outcome by outcome. Assumes
-- nothing.
use Rattle.std.specs.Prelude.{Result, Ok, Err}
use Rattle.shape.specs.Refusal.{answer_or}
use mathlib.Core.Path.{◌≡◌, sym, ap, ◌∙◌}
use mathlib.Core.List.{List, [], ◌++◌}
use Prim.Native.Nat.{ℕ, ◌≤◌, ◌<◌}
use native.Mathlib.Omega.{arith}
use lib.ListN.{take}
use lib.Ieee.{Float}
use Rattle.shape.specs.Shape.{size}
use Rattle.shape.specs.Checks.{first_refusal, shape_checks, length_check, Positive}
use Rattle.shape.specs.Refusal.{refusal_number}
use Rattle.shape.specs.Sizes.{coeff_storage_len}
use Rattle.shape.specs.declared.answers.Refusal.{Refusal}
use Rattle.shape.specs.declared.answers.Refusal.TheVariants.{NoSuchLine}
use Rattle.shape.proofs.Accepted.{prefix-passed}
use Rattle.knots.specs.Checks.{grid_check, knots_check}
use Rattle.knots.specs.declared.place.Loc.{Loc}
use Rattle.evaluation.specs.Place.{place_checks}
use Rattle.evaluation.proofs.Placing.{place-refused, place_found, place_is, left_out, others-passed, storage-passes, place-checks, place-no-axis, place-axis}
use Rattle.rectilinear_blocks.specs.Eval.{map_checks, map_answer}
use Rattle.rectilinear_map.specs.Place.{loc_at, grid_checks, no_place, RectilinearPlaced}

-- ---- the checks of a record with its grid

module _ (count : ℕ) (lens : List ℕ) (grid : List Float) where
  -- their numbers are above 0
  pub grid-numbered : Positive (grid_checks count lens grid)
  grid-numbered = (omega arith, (omega arith, (omega arith, (omega arith, (omega arith, tt)))))

  -- those of the map, for as many coefficients as the shape wants
  pub grid-answer : map_answer count lens grid (coeff_storage_len count lens) ≡ first_refusal (grid_checks count lens grid)
  unfolding map_answer
  grid-answer =
      let dims = take count lens in
      left_out (shape_checks count lens ++ grid_check dims grid) (length_check (size dims) (coeff_storage_len count lens)) (knots_check dims grid) (omega arith, (omega arith, (omega arith, (omega arith, tt)))) (omega arith, tt)
      (λ e. storage-passes count lens (prefix-passed (shape_checks count lens) (grid_check dims grid) e))

  -- an accepted map has an accepted record and grid
  pub map-grid : (coefs : ℕ) → first_refusal (map_checks count lens grid coefs) ≡ 0 → first_refusal (grid_checks count lens grid) ≡ 0
  map-grid coefs e =
      let dims = take count lens in
      others-passed (shape_checks count lens ++ grid_check dims grid) (length_check (size dims) coefs) (knots_check dims grid) (omega arith, (omega arith, (omega arith, (omega arith, tt)))) (omega arith, tt) e

  -- what is told by the checks of a map with as many coefficients as the shape wants
  module _ {coefs : ℕ} (sized : coefs ≡ coeff_storage_len count lens) where
    pub grid-refused : (r : Refusal) → refusal_number r ≡ map_answer count lens grid coefs → refusal_number r ≡ first_refusal (grid_checks count lens grid)
    grid-refused r e = e ∙ ap (map_answer count lens grid) sized ∙ grid-answer

    pub grid-passed : ◌≡◌ {A = ℕ} 0 (map_answer count lens grid coefs) → first_refusal (grid_checks count lens grid) ≡ 0
    grid-passed e = sym (ap (map_answer count lens grid) sized ∙ grid-answer) ∙ sym e

-- ---- the place on an axis

module _ (count : ℕ) (lens : List ℕ) (grid : List Float) (a : ℕ) (x : Float) where
  pub placed-refused : (r : Refusal) → refusal_number r ≡ first_refusal (grid_checks count lens grid) → RectilinearPlaced count lens grid a x (Err r)
  placed-refused r e = place-refused r (place-checks (grid_checks count lens grid) count a [] r e)

  module _ (ok : first_refusal (grid_checks count lens grid) ≡ 0) where
    pub placed-no-axis : count ≤ a → RectilinearPlaced count lens grid a x (Err NoSuchLine)
    placed-no-axis h = place-refused NoSuchLine (place-no-axis (grid_checks count lens grid) count a [] (grid-numbered count lens grid) ok h)

    module _ (h : a < count) where
      on-axis : first_refusal (place_checks (grid_checks count lens grid) count a []) ≡ 0
      unfolding first_refusal
      on-axis = place-axis (grid_checks count lens grid) count a [] (grid-numbered count lens grid) ok h

      pub placed_at : {found : Loc} → found ≡ loc_at count lens grid a x → RectilinearPlaced count lens grid a x (Ok found)
      placed_at e = place_found on-axis e

      -- on an axis of an accepted map the answer is the place
      pub placed-is : (r : Result Loc Refusal) → RectilinearPlaced count lens grid a x r → answer_or no_place r ≡ loc_at count lens grid a x
      placed-is r w = place_is on-axis w
