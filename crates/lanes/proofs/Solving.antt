-- The sweeps over the rows leave each lane solved, for any operations that meet the equations of `Scheme`: the last row's
-- difference, the first row, the rows between, the last row, and back substitution, all in place. Assumes nothing.
use mathlib.Core.Path.{◌≡◌, refl, sym, ap, ◌∙◌}
use mathlib.Core.Logic.{◌≢◌, ⊎_elim}
use mathlib.Core.Bool.{cond}
use mathlib.Core.List.{List}
use Prim.Native.Nat.{ℕ, zero, suc, ◌+◌, ◌-◌, ◌*◌, ◌≤◌, ◌<◌}
use native.Mathlib.Nat.{eq-or-lt_of_le}
use native.Mathlib.Omega.{arith}
use borrow.Author.Tests.{eq-eqb, ne_eqb}
use lib.Dec.{eqb}
use lib.ListN.{length}
use lib.Seq.{ext_get_or}
use lib.Ieee.{Float, nan}
use Rattle.shape.specs.Shape.{first_cell, line_of, place_of}
use Rattle.shape.specs.Cells.{on_line, line}
use Rattle.shape.proofs.Cells.{lt-or-ge}
use Rattle.shape.specs.Fit.{Looks}
use Rattle.shape.proofs.Radix.{cell-line_of, place_of-lt}
use Rattle.multibspline.specs.Thomas.{at}
use Rattle.lanes.specs.Lanes.{Lanes, solve_from, swept, sweep_up, sweep_down}
use Rattle.lanes.proofs.From.{length-solve_from, from-off, from_on}
use Rattle.lanes.proofs.Rows.{Rows, rows-up, rows-down}

-- of a line's samples y: `value y i` is the right side of row i once it is reduced, `c y i` coefficient i
pub record Scheme (n : ℕ) (value c : (ℕ → Float) → ℕ → Float) (low high last : Float → Float → Float) (inner back : ℕ → Float → Float → Float) : Type 0 where
  pub at_low : (y : ℕ → Float) → low (y 0) (y 1) ≡ value y 0
  pub at_inner : (y : ℕ → Float) (i : ℕ) → suc i < n - 1 → inner (suc i) (y (suc i)) (value y i) ≡ value y (suc i)
  pub at_last : (y : ℕ → Float) → last (high (y (n - 1)) (y (n - 2))) (value y (n - 2)) ≡ value y (n - 1)
  pub at-end : (y : ℕ → Float) → value y (n - 1) ≡ c y (n - 1)
  pub at_back : (y : ℕ → Float) (i : ℕ) → suc i < n → back i (value y i) (c y (suc i)) ≡ c y i
  pub looks : Looks c n

module _ {n : ℕ} {value c : (ℕ → Float) → ℕ → Float} {low high last : Float → Float → Float} {inner back : ℕ → Float → Float → Float}
    (scheme : Scheme n value c low high last inner back) (s first t m : ℕ) (xs₀ : List Float) (laid : Lanes n s first t m (length xs₀)) where
  y : ℕ → ℕ → Float
  y j = line nan (on_line (first * n) t j) s xs₀

  four : 4 ≤ n
  four = laid.four-points

  -- the samples, with the last row's difference taken
  ready : ℕ → ℕ → Float
  ready j k = cond (eqb k (n - 1)) (high (y j (n - 1)) (y j (n - 2))) (y j k)

  ready-inner : (j k : ℕ) → k ≢ n - 1 → ready j k ≡ y j k
  unfolding ready
  ready-inner j k d = rw (ne_eqb k (n - 1) d)

  ready-last : (j : ℕ) → ready j (n - 1) ≡ high (y j (n - 1)) (y j (n - 2))
  unfolding ready
  ready-last j = rw (eq-eqb (n - 1) (n - 1) refl)

  abbrev Forth : List Float → ℕ → Type 0
  Forth xs i = Rows (λ j. value (y j)) ready n s first t m xs₀ xs i

  abbrev Back : List Float → ℕ → Type 0
  Back xs i = Rows (λ j. value (y j)) (λ j. c (y j)) n s first t m xs₀ xs i

  -- the differences at the ends
  forth-start : (xs₁ xs₂ : List Float) → xs₁ ≡ swept high (on_line (first * n) s (n - 1)) (on_line (first * n) s (n - 2)) t m xs₀ → xs₂ ≡ swept low (on_line (first * n) s 0) (on_line (first * n) s 1) t m xs₁ → Forth xs₂ 1
  unfolding y
  forth-start xs₁ xs₂ e₁ e₂ =
      let f = four in
      let plain : Rows y ready n s first t m xs₀ xs₀ (suc (n - 1)) = record {
        size = refl;
        below = (λ k j p g q. refl);
        above = (λ k j p g q. absurd (omega arith));
        outside = (λ a out. refl);
      } in
      let at_last : Rows y ready n s first t m xs₀ xs₁ (n - 1) = rows-down high (n - 2) xs₁ laid (omega arith) e₁ plain (λ j q. sym (ready-last j)) in
      let all : Forth xs₁ 0 = record {
        size = at_last.size;
        below = (λ k j p g q. absurd (omega arith));
        above = (λ k j p g q.
            ⊎_elim
            (λ (same : k ≡ n - 1). at_last.above k j (omega arith) g q)
            (λ (less : k < n - 1). at_last.below k j less g q ∙ sym (ready-inner j k (λ w. omega arith)))
            (eq-or-lt_of_le (let z : k ≤ n - 1 = omega arith in z)));
        outside = at_last.outside;
      } in
      rows-up low 1 xs₂ laid (omega arith) e₂ all (λ j q.
      rw (
        all.above 0 j (omega arith) (omega arith) q,
        all.above 1 j (omega arith) (omega arith) q,
        ready-inner j 0 (λ w. omega arith),
        ready-inner j 1 (λ w. omega arith),
      ) (scheme.at_low (y j)))

  forth-up : (xs : List Float) → Forth xs 1 → (k : ℕ) → suc k ≤ n - 1 → Forth (sweep_up inner (first * n) t s m k xs) (suc k)
  unfolding sweep_up
  forth-up xs r zero h = r
  forth-up xs r (suc k) h =
      let so : Forth (sweep_up inner (first * n) t s m k xs) (suc k) = forth-up xs r k (omega arith) in
      rows-up (inner (suc k)) k _ laid (omega arith) refl so (λ j q.
      rw (so.above (suc k) j (omega arith) (omega arith) q, so.below k j (omega arith) (omega arith) q, ready-inner j (suc k) (λ w. omega arith))
      (scheme.at_inner (y j) k (omega arith)))

  back_start : (xs xs' : List Float) → Forth xs (n - 1) → xs' ≡ swept last (on_line (first * n) s (n - 1)) (on_line (first * n) s (n - 2)) t m xs → Back xs' (n - 1)
  back_start xs xs' r e =
      let f = four in
      let all : Forth xs' (suc (n - 1)) = rows-up last (n - 2) xs' laid (omega arith) e r (λ j q.
      rw (r.above (n - 1) j (omega arith) (omega arith) q, r.below (n - 2) j (omega arith) (omega arith) q, ready-last j) (scheme.at_last (y j))) in
      record {
        size = all.size;
        below = (λ k j p g q. all.below k j (omega arith) g q);
        above = (λ k j p g q. let top : k ≡ n - 1 = omega arith in all.below k j (omega arith) g q ∙ rw top (scheme.at-end (y j)));
        outside = all.outside;
      }

  back-down : (xs : List Float) → Back xs (n - 1) → (k : ℕ) → k ≤ n - 1 → Back (sweep_down back (first * n) t s m (n - 1) k xs) (n - 1 - k)
  unfolding sweep_down
  back-down xs r zero h = let a : n - 1 - 0 ≡ n - 1 = omega arith in rw a r
  back-down xs r (suc k) h =
      let a : n - 1 - k ≡ suc (n - 1 - suc k) = omega arith in
      let so : Back (sweep_down back (first * n) t s m (n - 1) k xs) (suc (n - 1 - suc k)) = rw a at (back-down xs r k (omega arith)) in
      rows-down (back (n - 1 - suc k)) (suc (n - 1 - suc k)) _ laid (omega arith) refl so (λ j q.
      rw (so.below (n - 1 - suc k) j (omega arith) (omega arith) q, so.above (suc (n - 1 - suc k)) j (omega arith) (omega arith) q)
      (scheme.at_back (y j) (n - 1 - suc k) (omega arith)))

  -- each lane is solved, so that the list is the one that the lines solved in order leave
  back_done : (xs : List Float) → Back xs 0 → xs ≡ solve_from nan c n s first m xs₀
  unfolding y
  back_done xs r = ext_get_or nan xs (solve_from nan c n s first m xs₀) (r.size ∙ sym (length-solve_from nan c n s first m xs₀)) (λ a h. each a)
    where
      off : (a : ℕ) → ((j : ℕ) → j < m → line_of n s a ≢ first + j) → at xs a ≡ at (solve_from nan c n s first m xs₀) a
      off a away = r.outside a away ∙ sym (from-off nan c n s first laid.stride-pos m xs₀ a away)

      on : (a j : ℕ) → j < m → line_of n s a ≡ first + j → at xs a ≡ at (solve_from nan c n s first m xs₀) a
      on a j h e =
          let hn : 0 < n = omega (arith, four) in
          let hp : place_of n s a < n = place_of-lt n s a hn in
          let here : on_line (on_line (first * n) t j) s (place_of n s a) ≡ a = rw (e, laid.starts j h) at (cell-line_of n s laid.stride-pos a) in
          let lane : line nan (on_line (first * n) t j) s xs (place_of n s a) ≡ c (y j) (place_of n s a) = r.above (place_of n s a) j (omega arith) hp h in
          let fits : (i : ℕ) → i < m → on_line (first_cell n s (first + i)) s (n - 1) < length xs₀ = λ i p. rw (laid.starts i p) (laid.within (n - 1) i (omega arith) p) in
          let theirs : at (solve_from nan c n s first m xs₀) a ≡ c (line nan (first_cell n s (first + j)) s xs₀) (place_of n s a) = from_on nan c n s first laid.stride-pos scheme.looks hn xs₀ m fits a j h e in
          ap (at xs) (sym here) ∙ lane ∙ sym (rw (laid.starts j h) at theirs)

      each : (a : ℕ) → at xs a ≡ at (solve_from nan c n s first m xs₀) a
      each a =
          ⊎_elim (λ (p : line_of n s a < first). off a (λ j h w. omega arith))
          (λ (p : first ≤ line_of n s a).
          ⊎_elim (λ (q : line_of n s a < first + m). on a (line_of n s a - first) (omega arith) (omega arith))
          (λ (q : first + m ≤ line_of n s a). off a (λ j h w. omega arith))
          (lt-or-ge (line_of n s a) (first + m)))
          (lt-or-ge (line_of n s a) first)

  -- all of it
  pub lanes-solved : (xs₁ xs₂ xs₃ xs₄ xs₅ : List Float)
      → xs₁ ≡ swept high (on_line (first * n) s (n - 1)) (on_line (first * n) s (n - 2)) t m xs₀
      → xs₂ ≡ swept low (on_line (first * n) s 0) (on_line (first * n) s 1) t m xs₁
      → xs₃ ≡ sweep_up inner (first * n) t s m (n - 2) xs₂
      → xs₄ ≡ swept last (on_line (first * n) s (n - 1)) (on_line (first * n) s (n - 2)) t m xs₃
      → xs₅ ≡ sweep_down back (first * n) t s m (n - 1) (n - 1) xs₄
      → xs₅ ≡ solve_from nan c n s first m xs₀
  lanes-solved xs₁ xs₂ xs₃ xs₄ xs₅ e₁ e₂ e₃ e₄ e₅ =
      let f = four in
      let a : suc (n - 2) ≡ n - 1 = omega arith in
      let b : n - 1 - (n - 1) ≡ 0 = omega arith in
      let forth : Forth xs₃ (n - 1) = rw e₃ (rw a at (forth-up xs₂ (forth-start xs₁ xs₂ e₁ e₂) (n - 2) (omega arith))) in
      let back' : Back xs₅ 0 = rw e₅ (rw b at (back-down xs₄ (back_start xs₃ xs₄ forth e₄) (n - 1) (omega arith))) in
      back_done xs₅ back'
