-- What a call that finds a place answers, outcome by outcome. Assumes nothing.
use mathlib.Core.Path.{◌≡◌, refl, sym, ◌∙◌}
use mathlib.Core.Bool.{false, not}
use mathlib.Core.List.{List, [], ◌∷◌, ◌++◌}
use Prim.Native.Nat.{ℕ, zero, suc, ◌≤◌, ◌<◌}
use native.Mathlib.Omega.{arith}
use lib.Dec.{eqb, ltb}
use lib.ListN.{take}
use borrow.Author.Tests.{ltb-true, lt-ltb, le-ltb, ne_eqb, not-false}
use Rattle.shape.specs.Shape.{size}
use Rattle.shape.specs.Checks.{Check, refuse, first_refusal, shape_checks, length_check, Positive}
use Rattle.shape.specs.Refusal.{refusal_number}
use Rattle.shape.specs.Sizes.{coeff_storage_len}
use Rattle.shape.specs.declared.answers.Refusal.{Refusal}
use Rattle.shape.specs.declared.answers.Refusal.TheVariants.{NoSuchLine}
use Rattle.shape.proofs.Accepted.{refusal-suc, refused-append, refusal-append, passed-append, both-passed, storage-is}
use Rattle.shape.specs.Outcome.{Condition, refuse_unless}
use Rattle.shape.proofs.Checks.{check-fails, check-passes, length-passes}
use Rattle.shape.proofs.Outcome.{Tests, test}
use Rattle.evaluation.specs.Place.{place_checks, PlaceFound}

-- ---- the answer, by its checks

module _ {L : Type 0} {checks : List Check} {place none : L} where
  pub place-refused : (r : Refusal) → refusal_number r ≡ first_refusal checks → PlaceFound checks place none (refusal_number r) none
  place-refused r e =
      let some : eqb (first_refusal checks) 0 ≡ false = ne_eqb (first_refusal checks) 0 (λ z. omega (arith, refusal-suc r, e)) in
      record { answers = e; finds = rw some }

  pub place_found : first_refusal checks ≡ 0 → {found : L} → found ≡ place → PlaceFound checks place none 0 found
  place_found z e = record { answers = sym z; finds = rw z e }

  -- where all checks pass, what is found is the place
  pub place_is : first_refusal checks ≡ 0 → {number : ℕ} {found : L} → PlaceFound checks place none number found → found ≡ place
  place_is z w = rw z at w.finds

-- ---- its checks: those of the map, which are those of a call that evaluates without the length of the coefficients

-- checks that pass where those before them do can be left out
pub left_out : (xs ys zs : List Check) → Positive xs → Positive ys → (first_refusal xs ≡ 0 → first_refusal ys ≡ 0) → first_refusal (xs ++ (ys ++ zs)) ≡ first_refusal (xs ++ zs)
left_out xs ys zs px py pass = go (first_refusal xs) refl
  where
    go : (n : ℕ) → first_refusal xs ≡ n → first_refusal (xs ++ (ys ++ zs)) ≡ first_refusal (xs ++ zs)
    go zero e = passed-append xs (ys ++ zs) px e ∙ passed-append ys zs py (pass e) ∙ sym (passed-append xs zs px e)
    go (suc n) e = refused-append xs (ys ++ zs) n e ∙ sym (refused-append xs zs n e)

-- where all pass, the others do
pub others-passed : (xs ys zs : List Check) → Positive xs → Positive ys → first_refusal (xs ++ (ys ++ zs)) ≡ 0 → first_refusal (xs ++ zs) ≡ 0
others-passed xs ys zs px py e =
    let w = both-passed xs (ys ++ zs) px e in
    passed-append xs zs px w.0 ∙ (both-passed ys zs py w.1).1

-- the length of the coefficients passes where it is the one that the shape wants
pub storage-passes : (count : ℕ) (lens : List ℕ) → first_refusal (shape_checks count lens) ≡ 0 → first_refusal (length_check (size (take count lens)) (coeff_storage_len count lens)) ≡ 0
unfolding first_refusal
storage-passes count lens ok = length-passes [] (size (take count lens)) (coeff_storage_len count lens) (storage-is count lens ok)

module _ (map : List Check) (count a : ℕ) (coordinate : List Check) where
  pub place-checks : (r : Refusal) → refusal_number r ≡ first_refusal map → refusal_number r ≡ first_refusal (place_checks map count a coordinate)
  place-checks r e = refusal-append r map (refuse 7 (not (ltb a count)) ∷ coordinate) e

  module _ (pos : Positive map) (ok : first_refusal map ≡ 0) where
    after_map : first_refusal (place_checks map count a coordinate) ≡ first_refusal (refuse 7 (not (ltb a count)) ∷ coordinate)
    after_map = passed-append map (refuse 7 (not (ltb a count)) ∷ coordinate) pos ok

    pub place-no-axis : count ≤ a → refusal_number NoSuchLine ≡ first_refusal (place_checks map count a coordinate)
    place-no-axis h = check-fails coordinate 7 (not (ltb a count)) (rw (le-ltb a count h)) ∙ sym after_map

    pub place-axis : a < count → first_refusal (place_checks map count a coordinate) ≡ first_refusal coordinate
    place-axis h = after_map ∙ check-passes coordinate 7 (not (ltb a count)) (rw (lt-ltb a count h))

-- the axis, among the tests of the conditions of the call
pub axis-test : {cs : List Check} {ds : List Condition} (count a : ℕ) → Tests cs ds → Tests (refuse 7 (not (ltb a count)) ∷ cs) (refuse_unless 7 (a < count) ∷ ds)
axis-test count a rest = test refl ((λ e. ltb-true a count (not-false (ltb a count) e)), (λ h. rw (lt-ltb a count h))) (λ _. rest)
