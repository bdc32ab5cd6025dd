-- The checks of a rectilinear map with its joined grid, outcome by outcome, and what an accepted map has. Assumes nothing.
use mathlib.Core.Path.{◌≡◌, sym, ◌∙◌}
use mathlib.Core.Bool.{true, false, not}
use mathlib.Core.List.{List, [], ◌++◌}
use Prim.Native.Nat.{ℕ}
use native.Mathlib.Omega.{arith}
use borrow.Author.Tests.{not-false}
use lib.ListN.{length, take}
use lib.Ieee.{Float}
use Rattle.shape.specs.Shape.{size}
use Rattle.shape.specs.Checks.{first_refusal, shape_checks, length_check}
use Rattle.shape.specs.Refusal.{refusal_number}
use Rattle.shape.specs.declared.answers.Refusal.{Refusal}
use Rattle.shape.proofs.Accepted.{refusal-append, accepted-append, prefix-passed, usable, axes-are}
use Rattle.shape.proofs.Checks.{check-fails, check-passes, check-passed, length-fails, length-passes, length-passed}
use Rattle.knots.specs.Joined.{total, all_rise}
use Rattle.knots.specs.Checks.{grid_check, knots_check}
use Rattle.rectilinear.specs.Fit.{rectilinear_fit_checks}
use Rattle.rectilinear.proofs.Total.{fit-accepted, accepted-rise}
use Rattle.rectilinear_blocks.specs.Eval.{grid_answer, map_answer}
use Rattle.rectilinear_blocks.specs.Sound.{Gridded, Sound}

-- ---- from a grid alone

module _ (count : ℕ) (lens : List ℕ) (grid : List Float) where
  pub grid-shape : (r : Refusal) → refusal_number r ≡ first_refusal (shape_checks count lens) → refusal_number r ≡ grid_answer count lens grid
  unfolding grid_answer
  grid-shape r e = refusal-append r (shape_checks count lens) (grid_check (take count lens) grid) e

  module _ (ok : first_refusal (shape_checks count lens) ≡ 0) where
    pub grid-length : (length grid ≡ total (take count lens) → ⊥) → ◌≡◌ {A = ℕ} 2 (grid_answer count lens grid)
    unfolding grid_answer
    grid-length h = length-fails [] (total (take count lens)) (length grid) h ∙ sym (accepted-append count lens ok (grid_check (take count lens) grid))

    pub grid-passed : length grid ≡ total (take count lens) → grid_answer count lens grid ≡ 0
    unfolding grid_answer first_refusal
    grid-passed h = accepted-append count lens ok (grid_check (take count lens) grid) ∙ length-passes [] (total (take count lens)) (length grid) h

  module _ (e : grid_answer count lens grid ≡ 0) where
    pub shape-passed : first_refusal (shape_checks count lens) ≡ 0
    unfolding grid_answer
    shape-passed = prefix-passed (shape_checks count lens) (grid_check (take count lens) grid) e

    pub grid-joined : length grid ≡ total (take count lens)
    unfolding grid_answer
    grid-joined = (length-passed [] (total (take count lens)) (length grid) (sym (accepted-append count lens shape-passed (grid_check (take count lens) grid)) ∙ e)).0

-- ---- a map

module _ (count : ℕ) (lens : List ℕ) (grid : List Float) (coefs : ℕ) where
  pub map-grid : (r : Refusal) → refusal_number r ≡ grid_answer count lens grid → refusal_number r ≡ map_answer count lens grid coefs
  unfolding grid_answer map_answer
  map-grid r e = refusal-append r (shape_checks count lens ++ grid_check (take count lens) grid) (length_check (size (take count lens)) coefs ++ knots_check (take count lens) grid) e

  -- once the shape has passed
  module _ (ok : first_refusal (shape_checks count lens) ≡ 0) where
    after-shape : map_answer count lens grid coefs ≡ first_refusal (grid_check (take count lens) grid ++ (length_check (size (take count lens)) coefs ++ knots_check (take count lens) grid))
    unfolding map_answer
    after-shape = accepted-append count lens ok (grid_check (take count lens) grid ++ (length_check (size (take count lens)) coefs ++ knots_check (take count lens) grid))

    module _ (joined : length grid ≡ total (take count lens)) where
      after-grid : map_answer count lens grid coefs ≡ first_refusal (length_check (size (take count lens)) coefs ++ knots_check (take count lens) grid)
      after-grid = after-shape ∙ length-passes _ (total (take count lens)) (length grid) joined

      pub map-coefs : (coefs ≡ size (take count lens) → ⊥) → ◌≡◌ {A = ℕ} 2 (map_answer count lens grid coefs)
      map-coefs h = length-fails _ (size (take count lens)) coefs h ∙ sym after-grid

      module _ (sized : coefs ≡ size (take count lens)) (four : length lens ≡ 4) where
        after-coefs : map_answer count lens grid coefs ≡ first_refusal (knots_check (take count lens) grid)
        after-coefs = after-grid ∙ length-passes _ (size (take count lens)) coefs sized

        axes : length (take count lens) ≡ count
        axes = axes-are count lens four (usable count lens four ok)

        pub map-falls : all_rise grid (take count lens) count ≡ false → ◌≡◌ {A = ℕ} 5 (map_answer count lens grid coefs)
        map-falls e = check-fails [] 5 (not (all_rise grid (take count lens) (length (take count lens)))) (rw (axes, e)) ∙ sym after-coefs

        pub map-passed : all_rise grid (take count lens) count ≡ true → map_answer count lens grid coefs ≡ 0
        unfolding first_refusal
        map-passed e = after-coefs ∙ check-passes [] 5 (not (all_rise grid (take count lens) (length (take count lens)))) (rw (axes, e))

  -- an accepted map
  pub map-sound : length lens ≡ 4 → map_answer count lens grid coefs ≡ 0 → Sound count lens grid coefs
  unfolding map_answer
  map-sound four e =
      let ok = prefix-passed (shape_checks count lens) _ e in
      let u = usable count lens four ok in
      let g = length-passed _ (total (take count lens)) (length grid) (sym (after-shape ok) ∙ e) in
      let k = length-passed _ (size (take count lens)) coefs g.1 in
      let all = all_rise grid (take count lens) (length (take count lens)) in
      let r = not-false all (check-passed [] 5 (not all) (omega arith) k.1).0 in
      record {
        gridded = record { shape = u; joined = g.0; rising = rw (axes-are count lens four u) at r };
        sized = k.0;
      }

  pub told-sound : length lens ≡ 4 → ◌≡◌ {A = ℕ} 0 (map_answer count lens grid coefs) → Sound count lens grid coefs
  told-sound four e = map-sound four (sym e)

-- what a map has whose fit is accepted
pub fit-gridded : (count : ℕ) (lens : List ℕ) (grid : List Float) (samples coefs scratch : ℕ) → length lens ≡ 4 → ◌≡◌ {A = ℕ} 0 (first_refusal (rectilinear_fit_checks count lens grid samples coefs scratch)) → Gridded count lens grid
fit-gridded count lens grid samples coefs scratch four e =
    let w = fit-accepted count lens grid samples coefs scratch four (sym e) in
    record { shape = w.shape; joined = w.joined; rising = accepted-rise count lens grid samples coefs scratch four w }
