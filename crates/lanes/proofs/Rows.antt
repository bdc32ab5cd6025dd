-- A sweep over one row of the lanes: the loop's invariant, and what the sweep does to each lane. For any operation. Assumes nothing.
use mathlib.Core.Path.{◌≡◌, refl, sym, ap, ◌∙◌}
use mathlib.Core.Logic.{◌≢◌, ⊎_elim}
use mathlib.Core.List.{List}
use Prim.Native.Nat.{ℕ, suc, ◌+◌, ◌*◌, ◌≤◌, ◌<◌}
use native.Mathlib.Nat.{eq-or-lt_of_le}
use native.Mathlib.Omega.{arith}
use lib.ListN.{length, set, length-set}
use lib.Ieee.{Float, nan}
use Rattle.shape.specs.Shape.{line_of, place_of}
use Rattle.shape.specs.Cells.{on_line, line}
use Rattle.shape.proofs.Cells.{length-put, put_other, put_same, put_next}
use Rattle.shape.proofs.Radix.{line_of-cell, place_of-cell}
use Rattle.multibspline.specs.Thomas.{at}
use Rattle.lanes.specs.Lanes.{Lanes, Beside, swept}

-- ---- where the lanes lie

module _ {n s first t m len : ℕ} (laid : Lanes n s first t m len) where
  pub lane-line : (i j : ℕ) → i < n → j < m → line_of n s (on_line (on_line (first * n) t j) s i) ≡ first + j
  lane-line i j hi hj = rw (laid.starts j hj) at (line_of-cell n s laid.stride-pos (first + j) i hi)

  pub lane_place : (i j : ℕ) → i < n → j < m → place_of n s (on_line (on_line (first * n) t j) s i) ≡ i
  lane_place i j hi hj = rw (laid.starts j hj) at (place_of-cell n s laid.stride-pos (first + j) i hi)

  -- no two entries share a cell
  pub same_row : (i k j h : ℕ) → i < n → k < n → j < m → h < m → on_line (on_line (first * n) t j) s i ≡ on_line (on_line (first * n) t h) s k → i ≡ k
  same_row i k j h hi hk hj hh e = sym (lane_place i j hi hj) ∙ ap (place_of n s) e ∙ lane_place k h hk hh

  pub same-lane : (i k j h : ℕ) → i < n → k < n → j < m → h < m → on_line (on_line (first * n) t j) s i ≡ on_line (on_line (first * n) t h) s k → j ≡ h
  same-lane i k j h hi hk hj hh e =
      let z : first + j ≡ first + h = sym (lane-line i j hi hj) ∙ ap (line_of n s) e ∙ lane-line k h hk hh in
      omega arith

  -- a row begins within the list
  pub row_in : {i : ℕ} → i < n → on_line (first * n) s i < len
  row_in {i} hi = omega (arith, laid.within i 0 hi laid.some)

  -- two rows
  pub beside : {p q i k : ℕ} → i < n → k < n → i ≢ k → p ≡ on_line (first * n) s i → q ≡ on_line (first * n) s k → Beside p q t m len
  beside {p} {q} {i} {k} hi hk d ep eq = record {
    here = (λ j h. omega (arith, laid.within i j hi h));
    there = (λ j h. omega (arith, laid.within k j hk h));
    apart = (λ h j a b e. let z : j ≡ h = same-lane i i j h hi hi b (omega arith) (omega arith) in omega arith);
    apart-there = (λ h j a b e. d (sym (same_row k i j h hk hi b (omega arith) (omega arith))));
  }

pub laid_as : {n s first t m len len' : ℕ} → len' ≡ len → Lanes n s first t m len → Lanes n s first t m len'
laid_as e laid = rw e laid

pub length-swept : (op : Float → Float → Float) (p q t m : ℕ) (xs : List Float) → length (swept op p q t m xs) ≡ length xs
unfolding swept
length-swept op p q t m xs = length-put (on_line p t) _ m xs

pub swept_at : (op : Float → Float → Float) (p q p' q' t m : ℕ) (xs xs' : List Float) → xs' ≡ swept op p q t m xs → p ≡ p' → q ≡ q' → xs' ≡ swept op p' q' t m xs
swept_at op p q p' q' t m xs xs' e a b = rw (← a, ← b) e

pub swept-by : (op op' : Float → Float → Float) (p q t m : ℕ) (xs xs' : List Float) → op ≡ op' → xs' ≡ swept op p q t m xs → xs' ≡ swept op' p q t m xs
swept-by op op' p q t m xs xs' same e = rw (← same) e

-- ---- the loop over the cells of a row

pub record Swept (op : Float → Float → Float) (p q t m : ℕ) (xs₀ xs : List Float) (j : ℕ) : Type 0 where
  pub most : j ≤ m
  pub size : length xs ≡ length xs₀
  pub cells : xs ≡ swept op p q t j xs₀

module _ {op : Float → Float → Float} {p q t m : ℕ} {xs₀ : List Float} where
  pub sweep-start : Swept op p q t m xs₀ xs₀ 0
  unfolding swept
  sweep-start = record { most = omega arith; size = refl; cells = refl }

  pub sweep-step : {xs xs' : List Float} {j : ℕ} → Swept op p q t m xs₀ xs j → j < m → Beside p q t m (length xs₀)
      → xs' ≡ set xs (p + j * t) (op (at xs (p + j * t)) (at xs (q + j * t))) → Swept op p q t m xs₀ xs' (j + 1)
  unfolding swept
  sweep-step {xs} {xs'} {j} w h b e =
      let g : ℕ → Float = λ k. op (at xs₀ (p + k * t)) (at xs₀ (q + k * t)) in
      let here : at xs (p + j * t) ≡ at xs₀ (p + j * t) = rw w.cells (put_other (on_line p t) g j xs₀ (p + j * t) nan (λ k i. b.apart k j i h)) in
      let there : at xs (q + j * t) ≡ at xs₀ (q + j * t) = rw w.cells (put_other (on_line p t) g j xs₀ (q + j * t) nan (λ k i. b.apart-there k j i h)) in
      record {
        most = omega arith;
        size = ap length e ∙ length-set xs (p + j * t) _ ∙ w.size;
        cells = put_next (on_line p t) g j xs₀ xs xs' _ w.cells e (rw (here, there));
      }

-- ---- what it does to the lanes

-- in lane j, rows below i hold A j, rows from i on B j; the cells of no lane are those of xs₀
pub record Rows (A B : ℕ → ℕ → Float) (n s first t m : ℕ) (xs₀ xs : List Float) (i : ℕ) : Type 0 where
  pub size : length xs ≡ length xs₀
  pub below : (k j : ℕ) → k < i → k < n → j < m → line nan (on_line (first * n) t j) s xs k ≡ A j k
  pub above : (k j : ℕ) → i ≤ k → k < n → j < m → line nan (on_line (first * n) t j) s xs k ≡ B j k
  pub outside : (c : ℕ) → ((j : ℕ) → j < m → line_of n s c ≢ first + j) → at xs c ≡ at xs₀ c

module _ (op : Float → Float → Float) (n s first t m i k : ℕ) (xs xs' : List Float) (laid : Lanes n s first t m (length xs)) (hi : i < n)
    (e : xs' ≡ swept op (on_line (first * n) s i) (on_line (first * n) s k) t m xs) where
  pub turn-here : (j : ℕ) → j < m → line nan (on_line (first * n) t j) s xs' i ≡ op (line nan (on_line (first * n) t j) s xs i) (line nan (on_line (first * n) t j) s xs k)
  unfolding swept
  turn-here j h =
      let p = first * n + i * s in
      let q = first * n + k * s in
      let a : first * n + j * t + i * s ≡ p + j * t = omega arith in
      let b : first * n + j * t + k * s ≡ q + j * t = omega arith in
      rw (e, a, b) (put_same (on_line p t) (λ x. op (at xs (p + x * t)) (at xs (q + x * t))) m xs j nan h
      (rw a at (laid.within i j hi h))
      (λ x v w same. let z : j ≡ x = same-lane laid i i j x hi hi h w (omega (arith, same)) in omega arith))

  pub turn-away : (c : ℕ) → ((j : ℕ) → j < m → c ≢ on_line (on_line (first * n) t j) s i) → at xs' c ≡ at xs c
  unfolding swept
  turn-away c away =
      let p = first * n + i * s in
      let q = first * n + k * s in
      rw e (put_other (on_line p t) (λ x. op (at xs (p + x * t)) (at xs (q + x * t))) m xs c nan (λ x v w. away x v (omega arith)))

  pub turn-other : (j h : ℕ) → j < m → h < n → h ≢ i → line nan (on_line (first * n) t j) s xs' h ≡ line nan (on_line (first * n) t j) s xs h
  turn-other j h p g d = turn-away (on_line (on_line (first * n) t j) s h) (λ x v w. d (same_row laid h i j x g hi p v w))

-- row i goes from what it was to what it is to be
module _ {A B : ℕ → ℕ → Float} {n s first t m i : ℕ} {xs₀ xs : List Float} (op : Float → Float → Float) (k : ℕ) (xs' : List Float) (laid₀ : Lanes n s first t m (length xs₀)) (hi : i < n)
    (e : xs' ≡ swept op (on_line (first * n) s i) (on_line (first * n) s k) t m xs) where
  pub rows-up : Rows A B n s first t m xs₀ xs i → ((j : ℕ) → j < m → op (line nan (on_line (first * n) t j) s xs i) (line nan (on_line (first * n) t j) s xs k) ≡ A j i) → Rows A B n s first t m xs₀ xs' (suc i)
  rows-up r v =
      let laid : Lanes n s first t m (length xs) = rw r.size laid₀ in
      record {
        size = ap length e ∙ length-swept op _ _ t m xs ∙ r.size;
        below = (λ h j p g q.
            ⊎_elim
            (λ (same : h ≡ i). rw same (turn-here op n s first t m i k xs xs' laid hi e j q ∙ v j q))
            (λ (less : h < i). turn-other op n s first t m i k xs xs' laid hi e j h q g (λ w. omega arith) ∙ r.below h j less g q)
            (eq-or-lt_of_le (let z : h ≤ i = omega arith in z)));
        above = (λ h j p g q. turn-other op n s first t m i k xs xs' laid hi e j h q g (λ w. omega arith) ∙ r.above h j (omega arith) g q);
        outside = (λ c out. turn-away op n s first t m i k xs xs' laid hi e c (λ j q w. out j q (ap (line_of n s) w ∙ lane-line laid i j hi q)) ∙ r.outside c out);
      }

  pub rows-down : Rows A B n s first t m xs₀ xs (suc i) → ((j : ℕ) → j < m → op (line nan (on_line (first * n) t j) s xs i) (line nan (on_line (first * n) t j) s xs k) ≡ B j i) → Rows A B n s first t m xs₀ xs' i
  rows-down r v =
      let laid : Lanes n s first t m (length xs) = rw r.size laid₀ in
      record {
        size = ap length e ∙ length-swept op _ _ t m xs ∙ r.size;
        below = (λ h j p g q. turn-other op n s first t m i k xs xs' laid hi e j h q g (λ w. omega arith) ∙ r.below h j (omega arith) g q);
        above = (λ h j p g q.
            ⊎_elim
            (λ (same : i ≡ h). rw (← same) (turn-here op n s first t m i k xs xs' laid hi e j q ∙ v j q))
            (λ (more : i < h). turn-other op n s first t m i k xs xs' laid hi e j h q g (λ w. omega arith) ∙ r.above h j more g q)
            (eq-or-lt_of_le p));
        outside = (λ c out. turn-away op n s first t m i k xs xs' laid hi e c (λ j q w. out j q (ap (line_of n s) w ∙ lane-line laid i j hi q)) ∙ r.outside c out);
      }
