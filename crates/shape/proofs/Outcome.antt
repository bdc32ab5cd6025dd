-- From the checks of a call to its conditions, once for every call. Assumes nothing.
use mathlib.Core.Path.{◌≡◌, refl, sym, subst}
use mathlib.Core.Logic.{◌↔◌}
use mathlib.Core.Bool.{Bool, true, false, cond, not, ◌||◌}
use mathlib.Core.List.{List, [], ◌∷◌, ◌++◌}
use Prim.Native.Nat.{ℕ, ◌*◌, ◌≤◌, ◌<◌}
use native.Mathlib.Omega.{arith}
use lib.Dec.{eqb, ltb}
use lib.ListN.{length, take, get_or}
use lib.Seq.{length-take-le, get_or-take}
use borrow.Author.Tests.{lt-ltb, le-ltb, ltb-true, ltb-false, eq-eqb, ne_eqb, eqb-true, eqb-false, not-false}
use Rattle.shape.specs.Shape.{longest, size, lines, is_line}
use Rattle.shape.specs.Checks.{Check, refuse, first_refusal, Positive, any_short, most_points, shape_checks, length_check, scratch_check}
use Rattle.shape.specs.Usable.{Usable}
use Rattle.shape.specs.Outcome.{Condition, Outcome, accepted, refused, passed, Total, shape_conditions, length_condition, scratch_condition, line_condition}
use Rattle.shape.proofs.Lengths.{or-false}
use Rattle.shape.proofs.Below.{apart, and_both}
use Rattle.shape.proofs.Checks.{check-passed}
use Rattle.shape.proofs.Accepted.{long-enough, none-short}

-- ---- checks that test conditions, one by one and in order; what held before is known of those that follow

pub data Tests : List Check → List Condition → Type 1 where
  none : Tests [] []
  test : {c : Check} {cs : List Check} {d : Condition} {ds : List Condition} → c.number ≡ d.number → ((c.fails ≡ false) ↔ d.holds) → (d.holds → Tests cs ds) → Tests (c ∷ cs) (d ∷ ds)

-- all conditions hold
abbrev pub Holds : List Condition → Type 0
Holds [] = Unit {0}
Holds (d ∷ ds) = d.holds × Holds ds

is_true : (b : Bool) → (b ≡ false → ⊥) → b ≡ true
is_true true f = refl
is_true false f = absurd (f refl)

outcome : {cs : List Check} {ds : List Condition} → Tests cs ds → Outcome ds (first_refusal cs)
unfolding first_refusal
outcome none = accepted
outcome (test {c} {cs} {d} {ds} same means rest) = go c.fails refl (λ h. outcome (rest h))
  where
    go : (b : Bool) → c.fails ≡ b → (d.holds → Outcome ds (first_refusal cs)) → Outcome (d ∷ ds) (cond b c.number (first_refusal cs))
    go true e ih = rw same (refused (λ h. apart c.fails e (means.1 h)))
    go false e ih = let h = means.0 e in passed h (ih h)

answered : {cs : List Check} {ds : List Condition} {n : ℕ} → Tests cs ds → Outcome ds n → n ≡ first_refusal cs
unfolding first_refusal
answered none accepted = refl
answered (test {c} same means rest) (refused bad) = rw (is_true c.fails (λ e. bad (means.0 e))) (sym same)
answered (test same means rest) (passed h o) = rw (means.1 h) (answered (rest h) o)

-- demand 1 for every call
pub total : {cs : List Check} {ds : List Condition} → Tests cs ds → Total (first_refusal cs) ds
total {cs} {ds} t n = ((λ e. subst (Outcome ds) (sym e) (outcome t)), (λ o. answered t o))

-- where the call is accepted, all conditions hold
pub all_hold : {cs : List Check} {ds : List Condition} → Tests cs ds → Positive cs → first_refusal cs ≡ 0 → Holds ds
all_hold none pos e = tt
all_hold (test {c} {cs} same means rest) pos e =
    let p = check-passed cs c.number c.fails pos.0 e in
    let h = means.0 p.0 in
    (h, all_hold (rest h) pos.1 p.1)

-- one list of checks after another
pub append : {cs : List Check} {ds : List Condition} {cs' : List Check} {ds' : List Condition} → Tests cs ds → (Holds ds → Tests cs' ds') → Tests (cs ++ cs') (ds ++ ds')
append none after = after tt
append (test same means rest) after = test same means (λ h. append (rest h) (λ hs. after (h, hs)))

-- ---- the checks that several calls share

is-line : (dims : List ℕ) (a l : ℕ) → (not (is_line dims a l) ≡ false) ↔ ((a < length dims) × (l < lines dims a))
is-line dims a l = (
  (λ e.
      let both = and_both (ltb a (length dims)) (ltb l (lines dims a)) (not-false (is_line dims a l) e) in
      (ltb-true a (length dims) both.0, ltb-true l (lines dims a) both.1)),
  (λ h. rw (lt-ltb a (length dims) h.0, lt-ltb l (lines dims a) h.1)),
)

module _ {cs : List Check} {ds : List Condition} where
  pub length-test : (wanted given : ℕ) → (given ≡ wanted → Tests cs ds) → Tests (length_check wanted given ++ cs) (length_condition wanted given ∷ ds)
  length-test wanted given rest = test refl ((λ e. eqb-true given wanted (not-false (eqb given wanted) e)), (λ h. rw (eq-eqb given wanted h))) rest

  pub scratch-test : (dims : List ℕ) (scratch : ℕ) → (2 * longest dims ≤ scratch → Tests cs ds) → Tests (scratch_check dims scratch ++ cs) (scratch_condition dims scratch ∷ ds)
  scratch-test dims scratch rest = test refl (ltb-false scratch (2 * longest dims), le-ltb scratch (2 * longest dims)) rest

  pub line-test : (dims : List ℕ) (a l : ℕ) → ((a < length dims) × (l < lines dims a) → Tests cs ds) → Tests (refuse 7 (not (is_line dims a l)) ∷ cs) (line_condition dims a l ∷ ds)
  line-test dims a l rest = test refl (is-line dims a l) rest

module _ (count : ℕ) (lens : List ℕ) (four : length lens ≡ 4) where
  axes : count ≤ 4 → length (take count lens) ≡ count
  axes h = length-take-le count lens (omega arith)

  few : (eqb count 0 || ltb 4 count ≡ false) ↔ ((0 < count) × (count ≤ 4))
  few = (
    (λ e.
        let q = or-false (eqb count 0) (ltb 4 count) e in
        let some = eqb-false count 0 q.0 in
        (omega arith, ltb-false 4 count q.1)),
    (λ h. rw (ne_eqb count 0 (λ e. omega arith), le-ltb 4 count h.1)),
  )

  long : count ≤ 4 → (any_short (take count lens) ≡ false) ↔ ((a : ℕ) → a < count → 4 ≤ get_or lens a 0)
  long most = (
    (λ e a k. rw (get_or-take count lens a 0 k) at (long-enough (take count lens) e a (rw (axes most) k))),
    (λ all. none-short (take count lens) (λ a k.
        let k' : a < count = rw (axes most) at k in
        rw (get_or-take count lens a 0 k') (all a k'))),
  )

  -- the shape, and what follows it for one that is accepted
  pub shape-test : {cs : List Check} {ds : List Condition} → (Usable count lens → Tests cs ds) → Tests (shape_checks count lens ++ cs) (shape_conditions count lens ++ ds)
  shape-test rest =
      test refl few (λ h₁.
      test refl (long h₁.1) (λ h₂.
      test refl (ltb-false most_points (size (take count lens)), le-ltb most_points (size (take count lens))) (λ h₃.
      rest (record { some-axis = h₁.0; at-most-four = h₁.1; four-points = h₂; few-points = h₃ }))))
