-- Laws of forward elimination, for both formats: its rows by their numbers, what it leaves in scratch, and systems whose rows agree.
-- Assumes nothing.
use mathlib.Core.Path.{◌≡◌, refl, ap, ap₂, sym, ◌∙◌}
use mathlib.Core.List.{List, [], ◌∷◌, ◌++◌, map, map-map}
use Prim.Native.Nat.{ℕ, zero, suc, ◌+◌, ◌-◌, ◌≤◌, ◌<◌}
use native.Mathlib.Omega.{arith}
use lib.ListN.{length}
use lib.Ieee.{Float, Format, nan}
use Rattle.std.specs.List.{range_with_len}
use Rattle.std.proofs.lemmas.List.{map-append, get_or_append_left, get_or_at}
use Rattle.std.proofs.lemmas.List.FromFn.{get_or-map-range_with_len, length-map-range_with_len}
use Rattle.shape.specs.Fit.{line_scratch}
use Rattle.shape.proofs.Scratch.{scratch-next, scratch-ext}
use Rattle.multibspline.specs.Thomas.{Row, Reduced, at, uppers, rights, reduce, inner_reduced, last_reduced, forward}
use Rattle.multibspline.specs.Scratch.{with_reduced}

module _ (f : Format) (first : Reduced) (inner : ℕ → Row) (last : Row) (n : ℕ) where
  -- ---- a number of each row: of the first and the inner rows, and of the last
  module _ (number : Reduced → Float) where
    abbrev before : List Float
    before = map (λ i. number (inner_reduced f first inner i)) (range_with_len 0 (n - 1))

    length-before : length before ≡ n - 1
    length-before = length-map-range_with_len (λ i. number (inner_reduced f first inner i)) 0 (n - 1)

    numbers : map number (forward f first inner last n) ≡ before ++ number (last_reduced f first inner last n) ∷ []
    numbers =
        map-append number (map (inner_reduced f first inner) (range_with_len 0 (n - 1))) (last_reduced f first inner last n ∷ [])
        ∙ ap (λ (rows : List Float). rows ++ number (last_reduced f first inner last n) ∷ []) (map-map number (inner_reduced f first inner) (range_with_len 0 (n - 1)))

    pub number-inner : (i : ℕ) → i < n - 1 → at (map number (forward f first inner last n)) i ≡ number (inner_reduced f first inner i)
    number-inner i h =
        ap (λ (xs : List Float). at xs i) numbers ∙ get_or_append_left before _ nan i (omega (arith, length-before))
        ∙ get_or-map-range_with_len (λ j. number (inner_reduced f first inner j)) 0 (n - 1) i i nan h (omega arith)

    pub number_last : at (map number (forward f first inner last n)) (n - 1) ≡ number (last_reduced f first inner last n)
    number_last = ap (λ (xs : List Float). at xs (n - 1)) numbers ∙ get_or_at before _ [] nan (n - 1) length-before

  -- ---- scratch: s₀ before, s₁ with the rows before the last, s₂ with all

  pub elim-whole : (m : ℕ) (s₀ s₁ s₂ : List Float) (here : Reduced) → 2 ≤ n → n ≤ m → here ≡ inner_reduced f first inner (n - 2)
      → s₁ ≡ line_scratch m (λ k. (inner_reduced f first inner k).upper) (λ k. (inner_reduced f first inner k).right) (n - 1) s₀
      → s₂ ≡ with_reduced m (n - 1) (reduce f last here) s₁
      → s₂ ≡ line_scratch m (at (uppers (forward f first inner last n))) (at (rights (forward f first inner last n))) n s₀
  elim-whole m s₀ s₁ s₂ here two room eh e₁ e₂ =
      let a : n - 1 + 1 ≡ n = omega arith in
      let last_is : reduce f last here ≡ last_reduced f first inner last n = ap (reduce f last) eh in
      rw a at (scratch-next m (at (uppers (forward f first inner last n))) (at (rights (forward f first inner last n))) (n - 1) s₀ s₁ s₂ _ _ (omega arith)
      (e₁ ∙ scratch-ext m _ _ _ _ (n - 1) s₀ (λ k h. sym (number-inner (λ r. r.upper) k h)) (λ k h. sym (number-inner (λ r. r.right) k h)))
      e₂
      (ap (λ (r : Reduced). r.upper) last_is ∙ sym (number_last (λ r. r.upper)))
      (ap (λ (r : Reduced). r.right) last_is ∙ sym (number_last (λ r. r.right))))

-- ---- systems whose rows agree

module _ (f : Format) (n : ℕ) (first first' : Reduced) (inner inner' : ℕ → Row) (last last' : Row)
    (same_first : first ≡ first') (same_inner : (k : ℕ) → 0 < k → k < n - 1 → inner k ≡ inner' k) (same_last : last ≡ last') (two : 2 ≤ n) where
  inner-ext : (i : ℕ) → i < n - 1 → inner_reduced f first inner i ≡ inner_reduced f first' inner' i
  inner-ext zero h = same_first
  inner-ext (suc i) h = rw (same_inner (suc i) (omega arith) h, inner-ext i (omega arith))

  rows-ext : (a k : ℕ) → a + k ≤ n - 1 → map (inner_reduced f first inner) (range_with_len a k) ≡ map (inner_reduced f first' inner') (range_with_len a k)
  rows-ext a zero h = refl
  rows-ext a (suc k) h = ap₂ (λ (r : Reduced) (rows : List Reduced). r ∷ rows) (inner-ext a (omega arith)) (rows-ext (a + 1) k (omega arith))

  pub forward-ext : forward f first inner last n ≡ forward f first' inner' last' n
  forward-ext = ap₂ (λ (rows : List Reduced) (r : Reduced). rows ++ r ∷ []) (rows-ext 0 (n - 1) (omega arith)) (ap₂ (reduce f) same_last (inner-ext (n - 2) (omega arith)))
