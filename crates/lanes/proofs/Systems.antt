-- The rows of a system, done to a group of lanes, meet the equations of a scheme, and its upper numbers are the same for all
-- lines. For both formats. Assumes nothing.
use mathlib.Core.Path.{◌≡◌, sym, ap, ◌∙◌}
use mathlib.Core.Logic.{⊎_elim}
use mathlib.Core.List.{List}
use Prim.Native.Nat.{ℕ, zero, suc, ◌-◌, ◌≤◌, ◌<◌}
use native.Mathlib.Nat.{eq-or-lt_of_le}
use native.Mathlib.Omega.{arith}
use lib.Ieee.{Float, Format}
use Rattle.multibspline.specs.Thomas.{Reduced, inner_reduced}
use Rattle.multibspline.proofs.Sweeps.{back-here}
use Rattle.multibspline.proofs.Thomas.{number-inner, number_last}
use Rattle.lines.specs.Rows.{Rows, first_row, inner_row, last_row, upper_number, right_side, coefficient}
use Rattle.lines.proofs.Rows.{looks-coefficient}
use Rattle.lanes.specs.Lanes.{Uppers, back_cell}
use Rattle.lanes.specs.Groups.{upper_from, inner_at, last_at}
use Rattle.lanes.proofs.Solving.{Scheme}

module _ (f : Format) (s : Rows) (four : 4 ≤ s.points) where
  -- ---- a row's numbers, by its number

  module _ (y : ℕ → Float) where
    -- row i, of those before the last
    abbrev inner : ℕ → Reduced
    inner i = inner_reduced f (first_row s y) (inner_row s y) i

    upper-at : (i : ℕ) → i < s.points - 1 → upper_number f s y i ≡ (inner i).upper
    upper-at i h = number-inner f (first_row s y) (inner_row s y) (last_row s y) s.points (λ (r : Reduced). r.upper) i h

    right_at : (i : ℕ) → i < s.points - 1 → right_side f s y i ≡ (inner i).right
    right_at i h = number-inner f (first_row s y) (inner_row s y) (last_row s y) s.points (λ (r : Reduced). r.right) i h

    -- ---- the upper numbers, each from the one before

    pub upper_first : s.first_upper ≡ upper_number f s y 0
    upper_first = sym (upper-at 0 (omega arith))

    pub upper-next : (i : ℕ) → 0 < i → i < s.points - 1 → upper_from f (s.inner i) (upper_number f s y (i - 1)) ≡ upper_number f s y i
    upper-next zero some h = absurd (omega arith)
    upper-next (suc i) some h =
        let a : suc i - 1 ≡ i = omega arith in
        rw a (ap (upper_from f (s.inner (suc i))) (upper-at i (omega arith)) ∙ sym (upper-at (suc i) h))

    pub upper_last : upper_from f s.last (upper_number f s y (s.points - 2)) ≡ upper_number f s y (s.points - 1)
    upper_last =
        ap (upper_from f s.last) (upper-at (s.points - 2) (omega arith))
        ∙ sym (number_last f (first_row s y) (inner_row s y) (last_row s y) s.points (λ (r : Reduced). r.upper))

  -- the samples are not in them
  inner-same : (y z : ℕ → Float) (i : ℕ) → i < s.points - 1 → upper_number f s y i ≡ upper_number f s z i
  inner-same y z zero h = sym (upper_first y) ∙ upper_first z
  inner-same y z (suc i) h =
      let a : suc i - 1 ≡ i = omega arith in
      let next = λ (x : ℕ → Float). rw a at (upper-next x (suc i) (omega arith) h) in
      sym (next y) ∙ ap (upper_from f (s.inner (suc i))) (inner-same y z i (omega arith)) ∙ next z

  pub upper-same : (y z : ℕ → Float) (i : ℕ) → i < s.points → upper_number f s y i ≡ upper_number f s z i
  upper-same y z i h =
      ⊎_elim
      (λ (same : i ≡ s.points - 1).
      rw same (sym (upper_last y) ∙ ap (upper_from f s.last) (inner-same y z (s.points - 2) (omega arith)) ∙ upper_last z))
      (λ (less : i < s.points - 1). inner-same y z i less)
      (eq-or-lt_of_le (omega arith))

  -- ---- the scheme

  module _ (u : List Float) (o : Uppers (upper_number f s) s.points u) where
    pub scheme : Scheme s.points (right_side f s) (coefficient f s) s.first_right s.last_right (last_at f s.last s.points u) (inner_at f s u) (back_cell f u)
    unfolding inner_at last_at back_cell
    scheme = record {
      at_low = (λ y. sym (right_at y 0 (omega arith)));
      at_inner = (λ y i h.
          let a : suc i - 1 ≡ i = omega arith in
          rw (a, o.hold y i (omega arith), upper-at y i (omega arith), right_at y i (omega arith), right_at y (suc i) h));
      at_last = (λ y.
          rw (o.hold y (s.points - 2) (omega arith), upper-at y (s.points - 2) (omega arith), right_at y (s.points - 2) (omega arith))
          (sym (number_last f (first_row s y) (inner_row s y) (last_row s y) s.points (λ (r : Reduced). r.right))));
      at-end = (λ y. let a : s.points - 1 - (s.points - 1) ≡ 0 = omega arith in rw a);
      at_back = (λ y i h. rw (o.hold y i (omega arith)) (sym (back-here f (upper_number f s y) (right_side f s y) (s.points - 1) i (omega arith))));
      looks = looks-coefficient f s four;
    }

    -- by a number of points that the code has
    pub scheme-at : (n : ℕ) → n ≡ s.points → Scheme n (right_side f s) (coefficient f s) s.first_right s.last_right (last_at f s.last n u) (inner_at f s u) (back_cell f u)
    scheme-at n same = rw same scheme
