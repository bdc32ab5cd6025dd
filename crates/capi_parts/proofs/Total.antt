-- Demand 1 for the calls from C. Assumes nothing.
use mathlib.Core.Path.{◌≡◌, refl, sym, ap, ◌∙◌}
use mathlib.Core.Logic.{◌↔◌}
use mathlib.Core.Bool.{false}
use mathlib.Core.List.{List, [], ◌∷◌, ◌++◌, append_assoc}
use Prim.Native.Nat.{ℕ, ◌*◌, ◌≤◌}
use native.Mathlib.Omega.{arith}
use lib.ListN.{length, take}
use lib.Ieee.{Float}
use Rattle.shape.specs.Shape.{size}
use Rattle.shape.specs.Checks.{refuse, first_refusal, length_check, Positive}
use Rattle.shape.specs.Outcome.{Condition}
use Rattle.shape.proofs.Outcome.{Tests, none, test, total, append, shape-test, length-test, scratch-test}
use Rattle.shape.proofs.Total as Shape
use Rattle.evaluation.specs.Axes.{query}
use Rattle.evaluation.specs.Spline.{Spline, one_answer}
use Rattle.evaluation.proofs.Total.{evaluation-total}
use Rattle.regular.proofs.Total as Regular
use Rattle.rectilinear.proofs.Total as Rectilinear
use Rattle.stepwise.proofs.Total as Steps
use Rattle.regular_map.specs.Total.{Representable}
use Rattle.regular_map.proofs.Total.{steps-test, representable}
use Rattle.rectilinear_blocks.proofs.Figures.{answers-all}
use Rattle.rectilinear_map.specs.Total.{map_conditions, HasPlace}
use Rattle.rectilinear_map.specs.Laws.{numbered}
use Rattle.rectilinear_map.proofs.Total.{map-tests, map-total}
use Rattle.capi_parts.specs.Inputs.{lens_of, four_from}
use Rattle.capi_parts.specs.Regular.{steps_of, regular_map, regular_checks, regular_spline}
use Rattle.capi_parts.specs.Rectilinear.{rectilinear_spline}
use Rattle.capi_parts.specs.Total.{ShapeTotal, SplineTotal, regular_conditions, RegularTotal, RectilinearTotal}
use Rattle.capi_parts.proofs.Lens.{four-lens}

pub shape-total : (dims : List ℕ) → ShapeTotal dims
shape-total dims = record {
  check = Shape.shape-total (length dims) (lens_of dims) (four-lens dims);
  first_cell = λ a l. Shape.first-cell-total (length dims) (lens_of dims) a l (four-lens dims);
}

-- ---- a map on either grid

spline-total : (s : Spline) (map : List Condition) (HasPlace : List Float → Type 0) → Tests s.checks map → Positive s.checks
    → ((x : List Float) → (s.refuses x ≡ false) ↔ HasPlace x) → SplineTotal s map HasPlace
unfolding one_answer
spline-total s map HasPlace t pos place = record {
  evaluation = evaluation-total s map HasPlace t pos place;
  gradient = λ slopes x answer.
      let rest = length_check s.axes (length x) ++ refuse 6 (s.refuses (query s.axes x 1 0)) ∷ [] in
      let e = ap first_refusal (append_assoc s.checks (length_check s.axes slopes) rest) in
      let all = total (append t (λ _. length-test s.axes slopes (λ _. length-test s.axes (length x) (λ _. test refl (place (query s.axes x 1 0)) (λ _. none))))) answer in
      ((λ q. all.0 (q ∙ e)), (λ o. all.1 o ∙ sym e));
}

-- ---- regular grids

module _ (dims : List ℕ) (grid : List Float) where
  few : length dims ≤ 4 → length dims ≤ length (steps_of dims grid)
  unfolding four_from
  few h = h

  check-tests : (coefs : ℕ) → Tests (regular_checks dims grid coefs) (regular_conditions dims grid coefs)
  check-tests coefs =
      shape-test (length dims) (lens_of dims) (four-lens dims) (λ u.
      length-test (2 * length dims) (length grid) (λ _.
      length-test (size (take (length dims) (lens_of dims))) coefs (λ _.
      steps-test (length dims) (steps_of dims grid) (few u.at-most-four) none)))

pub regular-total : (dims : List ℕ) → RegularTotal dims
regular-total dims = record {
  fit = λ samples coefs scratch. Regular.fit-total (length dims) (lens_of dims) samples coefs scratch (four-lens dims);
  check = λ grid coefs. total (check-tests dims grid coefs);
  from-values = λ grid samples coefs scratch.
      total (
      shape-test (length dims) (lens_of dims) (four-lens dims) (λ u.
      length-test (2 * length dims) (length grid) (λ _.
      length-test (size (take (length dims) (lens_of dims))) coefs (λ _.
      length-test (size (take (length dims) (lens_of dims))) samples (λ _.
      scratch-test (take (length dims) (lens_of dims)) scratch (λ _.
      steps-test (length dims) (steps_of dims grid) (few dims grid u.at-most-four) none))))));
  spline = λ f grid linear coefs.
      spline-total (regular_spline f dims grid linear coefs) (regular_conditions dims grid (length coefs)) (Representable f (regular_map dims grid linear))
      (check-tests dims grid (length coefs)) (omega arith, (omega arith, (omega arith, (omega arith, (omega arith, (omega arith, tt)))))) (representable f (regular_map dims grid linear));
  steps = Steps.regular-total (length dims) (lens_of dims) (four-lens dims);
}

-- ---- rectilinear grids

pub rectilinear-total : (dims : List ℕ) (grid : List Float) → RectilinearTotal dims grid
rectilinear-total dims grid = record {
  fit = λ samples coefs scratch. Rectilinear.fit-total (length dims) (lens_of dims) grid samples coefs scratch (four-lens dims);
  check = λ coefs. map-total (length dims) (lens_of dims) grid coefs (four-lens dims);
  spline = λ f linear coefs.
      spline-total (rectilinear_spline f dims grid linear coefs) (map_conditions (length dims) (lens_of dims) grid (length coefs)) HasPlace
      (map-tests (length dims) (lens_of dims) grid (length coefs) (four-lens dims)) (numbered (length dims) (lens_of dims) grid (length coefs)) (λ x. ((λ _. tt), (λ _. answers-all f _ grid x)));
  steps = Steps.rectilinear-total (length dims) (lens_of dims) grid (four-lens dims);
}
