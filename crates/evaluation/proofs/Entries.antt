-- One entry an axis: reading it, and what is worked out from the rows of the axes in use alone. Assumes nothing.
use mathlib.Core.Path.{◌≡◌, refl, sym, ◌∙◌}
use mathlib.Core.Bool.{Bool, true, false, cond}
use mathlib.Core.List.{List, []}
use Prim.Native.Nat.{ℕ, zero, suc, ◌+◌, ◌-◌, ◌*◌, ◌≤◌, ◌<◌}
use native.Mathlib.Omega.{arith}
use lib.Dec.{eqb, ltb}
use lib.ListN.{get_or, set, take}
use lib.Seq.{get_or-set_same, get_or-set_other}
use lib.Ieee.{Float, nan, Format}
use borrow.Author.Tests.{lt-ltb, eqb-true, eqb-false}
use Rattle.shape.specs.Below.{sum_below}
use Rattle.shape.specs.Shape.{stride}
use Rattle.shape.proofs.Lengths.{product-end}
use Rattle.interp_math.specs.Sum.{summed, gradient_part}
use Rattle.interp_math.proofs.Summed.{summed-ext}
use Rattle.evaluation.specs.Axes.{per_axis, query, rows, zeros, strides}
use Rattle.evaluation.specs.Granted.{Ready, Reaches, RowsOn}

-- entry k, and what it is where axis k is in use
pub entry_at : {A : Type 0} (unused d : A) (count : ℕ) (entry : ℕ → A) (k : ℕ) → k < 4 → get_or (per_axis unused count entry) k d ≡ cond (ltb k count) (entry k) unused
entry_at unused d count entry zero h = refl
entry_at unused d count entry (suc zero) h = refl
entry_at unused d count entry (suc (suc zero)) h = refl
entry_at unused d count entry (suc (suc (suc zero))) h = refl
entry_at unused d count entry (suc (suc (suc (suc k)))) h = absurd (omega (arith, h))

pub axis-at : {A : Type 0} (unused d : A) (count : ℕ) (entry : ℕ → A) (k : ℕ) → k < count → count ≤ 4 → get_or (per_axis unused count entry) k d ≡ entry k
axis-at unused d count entry k h few = entry_at unused d count entry k (omega arith) ∙ rw (lt-ltb k count h)

-- coordinate k of a query
pub query-at : (count : ℕ) (xs : List Float) (n i k : ℕ) → k < count → count ≤ 4 → get_or (query count xs n i) k nan ≡ get_or xs (k * n + i) nan
unfolding query
query-at count xs n i k h few = axis-at _ nan count (λ a. get_or xs (a * n + i) nan) k h few

-- ---- strides

pub stride-at : {count : ℕ} {lens ss : List ℕ} (a : ℕ) → Ready count lens ss → a < count → get_or ss a 0 ≡ stride (take count lens) a
stride-at {count} {lens} a r h = rw r.strides-are (axis-at 0 0 count (stride (take count lens)) a h r.shape.at-most-four)

-- all of them together: unused ones are 0
sum-all : (count : ℕ) (lens : List ℕ) → count ≤ 4
    → get_or (strides count lens) 0 0 + get_or (strides count lens) 1 0 + get_or (strides count lens) 2 0 + get_or (strides count lens) 3 0 ≡ sum_below (stride (take count lens)) count
unfolding sum_below
sum-all zero lens h = refl
sum-all (suc zero) lens h = omega arith
sum-all (suc (suc zero)) lens h = omega arith
sum-all (suc (suc (suc zero))) lens h = omega arith
sum-all (suc (suc (suc (suc zero)))) lens h = omega arith
sum-all (suc (suc (suc (suc (suc count))))) lens h = absurd (omega (arith, h))

-- the coefficients that count, by the strides that were worked out
pub within_by : {count : ℕ} {lens ss : List ℕ} {first coefs : ℕ} → ss ≡ strides count lens → count ≤ 4 → Reaches count lens first coefs
    → first + 3 * (get_or ss 0 0 + get_or ss 1 0 + get_or ss 2 0 + get_or ss 3 0) < coefs
within_by {count} {lens} e few w = rw (e, sum-all count lens few) w.within

-- two neighbours along the last axis stand side by side
pub last-stride : {count : ℕ} {lens ss : List ℕ} → Ready count lens ss → get_or ss (count - 1) 0 ≡ 1
last-stride {count} {lens} {ss} r =
    let u = r.shape in
    stride-at (count - 1) r (omega (arith, u.some-axis))
    ∙ product-end lens count (suc (count - 1)) (omega (arith, r.four, u.at-most-four)) (omega arith)

-- ---- rows

module _ (f : Format) (coefs : List Float) (strides : List ℕ) (count first : ℕ) (few : count ≤ 4) (weight : ℕ → List Float) {ws : List (List Float)} (w : RowsOn count weight ws) where
  row_at : (l : ℕ) → l < count → get_or ws l [] ≡ get_or (rows count weight) l []
  row_at l h = w.at l h ∙ sym (axis-at zeros [] count weight l h few)

  -- the sum looks at the rows of the axes in use alone
  pub value-rows : summed f coefs strides ws count first ≡ summed f coefs strides (rows count weight) count first
  value-rows = summed-ext f coefs strides strides ws (rows count weight) count first (λ l h. refl) row_at

  -- and so does each part of the gradient
  module _ (slope : ℕ → List Float) {ss : List (List Float)} (s : RowsOn count slope ss) where
    pub part-rows : (k : ℕ) → k < count → gradient_part f coefs strides ws ss count first k ≡ gradient_part f coefs strides (rows count weight) (rows count slope) count first k
    unfolding gradient_part
    part-rows k hk = summed-ext f coefs strides strides _ _ count first (λ l h. refl) (λ l h. go l h (eqb l k) refl)
      where
        own : get_or ss k [] ≡ get_or (rows count slope) k []
        own = s.at k hk ∙ sym (axis-at zeros [] count slope k hk few)

        go : (l : ℕ) → l < count → (b : Bool) → eqb l k ≡ b → get_or (set ws k (get_or ss k [])) l [] ≡ get_or (set (rows count weight) k (get_or (rows count slope) k [])) l []
        go l h true e =
            rw (eqb-true l k e)
            (get_or-set_same ws k _ [] (omega (arith, w.four)) ∙ own ∙ sym (get_or-set_same (rows count weight) k _ [] (let z : k < 4 = omega arith in z)))
        go l h false e =
            let other = eqb-false l k e in
            get_or-set_other ws k l _ [] other ∙ row_at l h ∙ sym (get_or-set_other (rows count weight) k l _ [] other)
