-- The invariants of the loops over the rows. For any operation. Assumes nothing.
use mathlib.Core.Path.{◌≡◌, refl, ap, ◌∙◌}
use mathlib.Core.List.{List}
use Prim.Native.Nat.{ℕ, zero, suc, ◌+◌, ◌-◌, ◌*◌, ◌≤◌, ◌<◌}
use native.Mathlib.Omega.{arith}
use lib.ListN.{length}
use lib.Ieee.{Float}
use Rattle.shape.specs.Cells.{on_line}
use Rattle.lanes.specs.Lanes.{Lanes, swept, sweep_up, sweep_down}
use Rattle.lanes.proofs.Rows.{length-swept, laid_as}

pub record Up (op : ℕ → Float → Float → Float) (n s first t m : ℕ) (xs₁ xs : List Float) (i : ℕ) : Type 0 where
  pub some : 0 < i
  pub most : i ≤ n - 1
  pub laid : Lanes n s first t m (length xs)
  pub size : length xs ≡ length xs₁
  pub cells : xs ≡ sweep_up op (first * n) t s m (i - 1) xs₁

module _ {op : ℕ → Float → Float → Float} {n s first t m : ℕ} {xs₁ : List Float} where
  pub up_start : Lanes n s first t m (length xs₁) → Up op n s first t m xs₁ xs₁ 1
  unfolding sweep_up
  up_start a = record { some = omega arith; most = omega (arith, a.four-points); laid = a; size = refl; cells = refl }

  pub up_step : {xs xs' : List Float} {i : ℕ} → Up op n s first t m xs₁ xs i → i < n - 1 → xs' ≡ swept (op i) (on_line (first * n) s i) (on_line (first * n) s (i - 1)) t m xs → Up op n s first t m xs₁ xs' (i + 1)
  unfolding sweep_up
  up_step {i = zero} w h e = absurd (omega (arith, w.some))
  up_step {xs} {xs'} {i = suc k} w h e =
      let a : suc k - 1 ≡ k = omega arith in
      let b : suc k + 1 - 1 ≡ suc k = omega arith in
      let z : length xs' ≡ length xs = ap length e ∙ length-swept _ _ _ t m xs in
      record { some = omega arith; most = omega arith; laid = laid_as z w.laid; size = z ∙ w.size; cells = rw b (rw (a, w.cells, a) at e) }

  pub up_done : {xs : List Float} {i : ℕ} → Up op n s first t m xs₁ xs i → n - 1 ≤ i → xs ≡ sweep_up op (first * n) t s m (n - 2) xs₁
  up_done {xs} {i} w h = let e : i - 1 ≡ n - 2 = omega (arith, w.most) in rw e at w.cells

pub record Down (op : ℕ → Float → Float → Float) (n s first t m : ℕ) (xs₁ xs : List Float) (i : ℕ) : Type 0 where
  pub most : i ≤ n - 1
  pub laid : Lanes n s first t m (length xs)
  pub size : length xs ≡ length xs₁
  pub cells : xs ≡ sweep_down op (first * n) t s m (n - 1) (n - 1 - i) xs₁

module _ {op : ℕ → Float → Float → Float} {n s first t m : ℕ} {xs₁ : List Float} where
  pub down-start : Lanes n s first t m (length xs₁) → Down op n s first t m xs₁ xs₁ (n - 1)
  unfolding sweep_down
  down-start a = let e : n - 1 - (n - 1) ≡ 0 = omega arith in record { most = omega arith; laid = a; size = refl; cells = rw e }

  pub down_step : {xs xs' : List Float} {i : ℕ} → Down op n s first t m xs₁ xs i → 0 < i → xs' ≡ swept (op (i - 1)) (on_line (first * n) s (i - 1)) (on_line (first * n) s (i - 1 + 1)) t m xs → Down op n s first t m xs₁ xs' (i - 1)
  unfolding sweep_down
  down_step {xs} {xs'} {i} w h e =
      let a : n - 1 - (i - 1) ≡ suc (n - 1 - i) = omega (arith, w.most) in
      let b : n - 1 - suc (n - 1 - i) ≡ i - 1 = omega (arith, w.most) in
      let d : i - 1 + 1 ≡ suc (i - 1) = omega arith in
      let z : length xs' ≡ length xs = ap length e ∙ length-swept _ _ _ t m xs in
      record { most = omega (arith, w.most); laid = laid_as z w.laid; size = z ∙ w.size; cells = rw a (rw (b, ← w.cells) (rw d at e)) }

pub length_up : (op : ℕ → Float → Float → Float) (base t s m k : ℕ) (xs : List Float) → length (sweep_up op base t s m k xs) ≡ length xs
unfolding sweep_up
length_up op base t s m zero xs = refl
length_up op base t s m (suc k) xs = length-swept _ _ _ t m _ ∙ length_up op base t s m k xs
