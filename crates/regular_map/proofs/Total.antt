-- Demand 1 for the calls on a regular map. Assumes nothing.
use mathlib.Core.Path.{◌≡◌, refl}
use mathlib.Core.Logic.{◌≢◌, ◌↔◌}
use mathlib.Core.Bool.{true, false, not}
use mathlib.Core.List.{List, [], ◌∷◌}
use Prim.Native.Nat.{ℕ, zero, suc, ◌≤◌, ◌<◌}
use native.Mathlib.Nat.{le_of_suc-le-suc, not-suc-le-zero}
use native.Mathlib.Omega.{arith}
use lib.ListN.{length, take, get_or}
use lib.Seq.{length-take-le, get_or-take}
use lib.Ieee.{Float, Format, nan, lt}
use borrow.Author.Tests.{not-false}
use Rattle.shape.specs.Shape.{size}
use Rattle.shape.specs.Checks.{Check, refuse}
use Rattle.shape.specs.Outcome.{Condition}
use Rattle.shape.proofs.Lengths.{or-false}
use Rattle.shape.proofs.Below.{apart, none-at, any_none}
use Rattle.shape.proofs.Outcome.{Tests, none, test, total, append, shape-test, length-test}
use Rattle.multibspline.specs.Numbers.{f0}
use Rattle.regular.proofs.Total.{fit-tests}
use Rattle.regular_weights.specs.declared.place.Loc.{Loc}
use Rattle.std.proofs.Common.{Option, Some, None}
use Rattle.regular_weights.specs.Place.{unrepresentable}
use Rattle.evaluation.specs.ByAxis.{refuses}
use Rattle.evaluation.proofs.Total.{evaluation-total}
use Rattle.evaluation.proofs.Placing.{axis-test}
use Rattle.regular_blocks.specs.Map.{RegularMap}
use Rattle.regular_axis.specs.Axis.{is_unrepresentable}
use Rattle.regular_blocks.specs.Eval.{loc_on, regular_axes}
use Rattle.regular_blocks.specs.Checks.{any_step_bad, map_checks, map_answer, from_values_answer, regular}
use Rattle.regular_map.specs.Place.{loc_at}
use Rattle.regular_map.specs.Total.{steps_condition, Representable, map_conditions, MapTotal, FromValuesTotal, RegularTotal, PlaceTotal}
use Rattle.regular_map.specs.Laws.{numbered}

-- ---- the steps

all_up : (ss : List Float) → any_step_bad ss ≡ false → (a : ℕ) → a < length ss → lt f0 (get_or ss a nan) ≡ true
unfolding any_step_bad
all_up [] e a h = absurd (not-suc-le-zero h)
all_up (s ∷ ss) e zero h = not-false (lt f0 s) (or-false (not (lt f0 s)) (any_step_bad ss) e).0
all_up (s ∷ ss) e (suc a) h = all_up ss (or-false (not (lt f0 s)) (any_step_bad ss) e).1 a (le_of_suc-le-suc h)

none-bad : (ss : List Float) → ((a : ℕ) → a < length ss → lt f0 (get_or ss a nan) ≡ true) → any_step_bad ss ≡ false
unfolding any_step_bad
none-bad [] h = refl
none-bad (s ∷ ss) h = rw (h 0 (omega arith)) (none-bad ss (λ a k. h (suc a) (omega arith)))

steps_up : (count : ℕ) (steps : List Float) → count ≤ length steps → (any_step_bad (take count steps) ≡ false) ↔ ((a : ℕ) → a < count → lt f0 (get_or steps a nan) ≡ true)
steps_up count steps few =
    let axes = length-take-le count steps few in (
      (λ e a h. rw (get_or-take count steps a nan h) at (all_up (take count steps) e a (rw axes h))),
      (λ up. none-bad (take count steps) (λ a h.
          let h' : a < count = rw axes at h in
          rw (get_or-take count steps a nan h') (up a h'))),
    )

pub steps-test : {cs : List Check} {ds : List Condition} (count : ℕ) (steps : List Float) → count ≤ length steps → Tests cs ds → Tests (refuse 5 (any_step_bad (take count steps)) ∷ cs) (steps_condition count steps ∷ ds)
steps-test count steps few rest = test refl (steps_up count steps few) (λ _. rest)

-- ---- building

module _ (count : ℕ) (lens : List ℕ) (steps : List Float) (four : length lens ≡ 4) (four' : length steps ≡ 4) where
  map-tests : (coefs : ℕ) → Tests (map_checks count lens steps coefs) (map_conditions count lens steps coefs)
  map-tests coefs =
      shape-test count lens four (λ u. length-test (size (take count lens)) coefs (λ _. steps-test count steps (omega (arith, u.at-most-four)) none))

pub map-total : MapTotal
unfolding map_answer
map-total count lens steps coefs four four' = total (map-tests count lens steps four four' coefs)

pub from-values-total : FromValuesTotal
unfolding from_values_answer
from-values-total count lens steps samples coefs scratch four four' =
    total (append (fit-tests count lens samples coefs scratch four) (λ h. steps-test count steps (omega (arith, h.0.1)) none))

-- ---- the places

placed : (l : Option Loc) → l ≢ unrepresentable → is_unrepresentable l ≡ false
placed (Some loc) h = refl
placed None h = absurd (h refl)

has-place : (l : Option Loc) → (is_unrepresentable l ≡ false) ↔ (l ≢ unrepresentable)
has-place l = ((λ e bad. apart (is_unrepresentable l) (rw bad) e), placed l)

pub place-total : PlaceTotal
place-total f count lens starts steps a x four four' =
    total
    (shape-test count lens four (λ u.
    steps-test count steps (omega (arith, u.at-most-four)) (axis-test count a (test refl (has-place (loc_at f lens starts steps a x)) (λ _. none)))))

module _ (f : Format) (m : RegularMap) (x : List Float) where
  pub representable : (refuses (regular_axes f m) x ≡ false) ↔ Representable f m x
  unfolding refuses
  representable = (
    (λ e a h. (has-place (loc_on f m x a)).0 (none-at ((regular_axes f m).no_place x) m.count e a h)),
    (λ h. any_none ((regular_axes f m).no_place x) m.count (λ a k. (has-place (loc_on f m x a)).1 (h a k))),
  )

-- ---- values and gradients

pub regular-total : RegularTotal
regular-total f m coefs four four' =
    evaluation-total (regular f m coefs) (map_conditions m.count m.lens m.steps (length coefs)) (Representable f m)
    (map-tests m.count m.lens m.steps four four' (length coefs)) (numbered m.count m.lens m.steps (length coefs)) (representable f m)
