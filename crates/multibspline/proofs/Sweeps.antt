-- The invariants of the sweeps over a line, and their laws, for both formats. Assumes nothing.
use mathlib.Core.Path.{◌≡◌, refl, sym, ap, ◌∙◌}
use mathlib.Core.Logic.{◌≢◌, ⊎_elim}
use mathlib.Core.List.{List}
use Prim.Native.Nat.{ℕ, zero, suc, ◌+◌, ◌-◌, ◌≤◌, ◌<◌}
use native.Mathlib.Nat.{eq-or-lt_of_le}
use native.Mathlib.Omega.{arith}
use lib.ListN.{length, set, length-set}
use lib.Seq.{get_or-set_same, get_or-set_other, set-set, ext_get_or}
use lib.Ieee.{Float, Format, nan}
use Rattle.shape.specs.Cells.{put, from, on_line, write_line}
use Rattle.shape.specs.Fit.{line_scratch}
use Rattle.shape.proofs.Cells.{put-ext, from-unique, line-apart}
use Rattle.shape.proofs.Scratch.{put-set, scratch-upper, scratch-right, scratch-next, scratch-over, scratch-solved}
use Rattle.multibspline.specs.Thomas.{Row, Reduced, at, uppers, rights, reduce, inner_reduced, forward, back, back_at, back_step, solution}
use Rattle.multibspline.specs.Scratch.{with_reduced, solved, put_down}

-- ---- the copy of the samples: cells below i are copied

pub record Same (vs l₀ l : List Float) (i : ℕ) : Type 0 where
  pub length-l : length l ≡ length l₀
  pub below : (k : ℕ) → k < i → at l k ≡ at vs k

module _ {vs l₀ : List Float} where
  pub same-done : {l : List Float} {i : ℕ} → Same vs l₀ l i → length l₀ ≤ i → length vs ≡ length l₀ → l ≡ vs
  same-done {l} s h len = ext_get_or nan l vs (s.length-l ∙ sym len) (λ k p. s.below k (omega (arith, s.length-l)))

-- ---- forward elimination: the rows below i are reduced, and r is the last of them. s₀ holds row 0, as s did not

pub record Eliminated (f : Format) (first : Reduced) (row : ℕ → Row) (n m : ℕ) (s₀ s : List Float) (i : ℕ) (r : Reduced) : Type 0 where
  pub some : 0 < i
  pub most : i ≤ n
  pub length-s : length s ≡ length s₀
  pub here : r ≡ inner_reduced f first row (i - 1)
  pub rows : s ≡ line_scratch m (λ k. (inner_reduced f first row k).upper) (λ k. (inner_reduced f first row k).right) i s₀

-- a row that is kept, by the row that it is
pub row_kept : (f : Format) (m i : ℕ) (row row' : Row) (before r : Reduced) (s s' : List Float) → row ≡ row' → r ≡ reduce f row before → s' ≡ with_reduced m i r s → s' ≡ with_reduced m i (reduce f row' before) s
row_kept f m i row row' before r s s' same er e = e ∙ ap (λ (q : Reduced). with_reduced m i q s) (er ∙ ap (λ (q : Row). reduce f q before) same)

-- row 0 is set again
elim-over : (f : Format) (first : Reduced) (row : ℕ → Row) (m : ℕ) (s s₀ : List Float) (i : ℕ) → 0 < i → i ≤ m → s₀ ≡ with_reduced m 0 first s
    → line_scratch m (λ k. (inner_reduced f first row k).upper) (λ k. (inner_reduced f first row k).right) i s₀ ≡ line_scratch m (λ k. (inner_reduced f first row k).upper) (λ k. (inner_reduced f first row k).right) i s
elim-over f first row m s s₀ i pos room e =
    let z : m + 0 ≡ m = omega arith in
    rw e (rw z (scratch-over m (λ k. (inner_reduced f first row k).upper) (λ k. (inner_reduced f first row k).right) i s first.upper first.right pos room))

module _ {f : Format} {first : Reduced} {row : ℕ → Row} {n m : ℕ} where
  pub elim-start : (s : List Float) {s₀ : List Float} → 0 < n → n ≤ m → s₀ ≡ with_reduced m 0 first s → Eliminated f first row n m s₀ s₀ 1 first
  unfolding line_scratch
  elim-start s {s₀} h room e = record {
    some = omega arith;
    most = omega arith;
    length-s = refl;
    here = refl;
    rows = scratch-next m (λ k. (inner_reduced f first row k).upper) (λ k. (inner_reduced f first row k).right) 0 s s s₀ _ _ (omega arith) refl e refl refl ∙ sym (elim-over f first row m s s₀ 1 (omega arith) (omega arith) e);
  }

  pub elim-step : {s₀ s s' : List Float} {i : ℕ} {r r' : Reduced} → Eliminated f first row n m s₀ s i r → i < n → n ≤ m
      → r' ≡ reduce f (row i) r → s' ≡ with_reduced m i r' s
      → Eliminated f first row n m s₀ s' (i + 1) r'
  elim-step {i = zero} e h room er new = absurd (omega (arith, e.some))
  elim-step {s₀} {s} {s'} {i = suc j} {r} {r'} e h room er new =
      let k : suc j - 1 ≡ j = omega arith in
      let k' : suc j + 1 - 1 ≡ suc j = omega arith in
      let now : r' ≡ inner_reduced f first row (suc j) = er ∙ ap (reduce f (row (suc j))) (e.here ∙ ap (λ (q : ℕ). inner_reduced f first row q) k) in
      record {
        some = omega arith;
        most = omega arith;
        length-s = ap length new ∙ simp length-set e.length-s;
        here = now ∙ ap (λ (q : ℕ). inner_reduced f first row q) (sym k');
        rows = scratch-next m _ _ (suc j) s₀ s s' _ _ (omega arith) e.rows new (ap (λ (q : Reduced). q.upper) now) (ap (λ (q : Reduced). q.right) now);
      }

  -- all of the n rows
  pub elim-last : {s₀ s : List Float} {i : ℕ} {r : Reduced} → Eliminated f first row n m s₀ s i r → n ≤ i → (k : ℕ) → k ≡ n - 1 → r ≡ inner_reduced f first row k
  elim-last {i} e h k ek = let same : i ≡ n = omega (arith, e.most) in rw (same, ← ek) at e.here

  pub elim-done : (s : List Float) {s₀ s' : List Float} {i : ℕ} {r : Reduced} → Eliminated f first row n m s₀ s' i r → n ≤ i → n ≤ m → s₀ ≡ with_reduced m 0 first s
      → s' ≡ line_scratch m (λ k. (inner_reduced f first row k).upper) (λ k. (inner_reduced f first row k).right) n s
  elim-done s {s₀} {i = i} e h room e₀ = let same : i ≡ n = omega (arith, e.most) in rw same at e.rows ∙ elim-over f first row m s s₀ n (omega (arith, e.some)) room e₀

-- ---- back substitution: rows from i on are done

pub back-here : (f : Format) (upper right : ℕ → Float) (last j : ℕ) → j < last → back_at f upper right last j ≡ back_step f (upper j) (right j) (back_at f upper right last (suc j))
back-here f upper right last j h =
    let a : last - j ≡ suc (last - suc j) = omega arith in
    let b : last - suc (last - suc j) ≡ j = omega arith in
    rw (a, b)

pub back-ext : (f : Format) (u r u' r' : ℕ → Float) (last : ℕ) → ((k : ℕ) → k ≤ last → u k ≡ u' k) → ((k : ℕ) → k ≤ last → r k ≡ r' k) → (m : ℕ) → back f u r last m ≡ back f u' r' last m
back-ext f u r u' r' last eu er zero = er last (omega arith)
back-ext f u r u' r' last eu er (suc m) = rw (eu (last - suc m) (omega arith), er (last - suc m) (omega arith), back-ext f u r u' r' last eu er m)

-- the last right side is the last coefficient
pub back_last : (f : Format) (upper right : ℕ → Float) (last : ℕ) → right last ≡ back_at f upper right last last
back_last f upper right last = let a : last - last ≡ 0 = omega arith in rw a

-- x is the coefficient of row i, and l has those of the rows from i on but the last's
pub record Substituted (f : Format) (base stride n m : ℕ) (l₀ s₀ l s : List Float) (i : ℕ) (x : Float) : Type 0 where
  pub below : i < n
  pub length-l : length l ≡ length l₀
  pub length-s : length s ≡ length s₀
  pub here : x ≡ solved f n m s₀ i
  pub cells : put_down (on_line base stride) (solved f n m s₀) i l ≡ put_down (on_line base stride) (solved f n m s₀) (n - 1) l₀
  pub done : (k : ℕ) → i ≤ k → k < n → at s (m + k) ≡ solved f n m s₀ k
  pub todo : (k : ℕ) → k < m + i → at s k ≡ at s₀ k
  pub past : (k : ℕ) → m + n ≤ k → at s k ≡ at s₀ k

module _ {f : Format} {base stride n m : ℕ} {l₀ s₀ : List Float} where
  sub-next : (l s l' s' : List Float) (j : ℕ) (x x' : Float) → Substituted f base stride n m l₀ s₀ l s (suc j) x → n ≤ m → m + n ≤ length s₀
      → x' ≡ back_step f (at s j) (at s (m + j)) x → l' ≡ set l (on_line base stride j) x' → s' ≡ set s (m + j) x' → Substituted f base stride n m l₀ s₀ l' s' j x'
  sub-next l s l' s' j x x' t room fits ex el es =
      let inside : m + j < length s = omega (arith, t.below, t.length-s) in
      let now : x' ≡ solved f n m s₀ j =
      ex ∙ rw (t.todo j (omega (arith, t.below)), t.todo (m + j) (omega arith), t.here)
      (sym (back-here f (at s₀) (λ k. at s₀ (m + k)) (n - 1) j (omega (arith, t.below)))) in
      record {
        below = omega (arith, t.below);
        length-l = ap length el ∙ length-set l (on_line base stride j) _ ∙ t.length-l;
        length-s = ap length es ∙ length-set s (m + j) _ ∙ t.length-s;
        here = now;
        cells = rw (el, now) t.cells;
        done = (λ k p q.
            ⊎_elim
            (λ (same : j ≡ k). rw (← same, es) (get_or-set_same s (m + j) _ nan inside ∙ now))
            (λ (more : j < k). rw es (get_or-set_other s (m + j) (m + k) _ nan (λ w. omega arith) ∙ t.done k more q))
            (eq-or-lt_of_le p));
        todo = (λ k p. rw es (get_or-set_other s (m + j) k _ nan (λ w. omega arith) ∙ t.todo k (omega arith)));
        past = (λ k p. rw es (get_or-set_other s (m + j) k _ nan (λ w. omega (arith, t.below)) ∙ t.past k p));
      }

  pub sub-step : {l s l' s' : List Float} {i : ℕ} {x x' : Float} → Substituted f base stride n m l₀ s₀ l s i x → 0 < i → n ≤ m → m + n ≤ length s₀
      → x' ≡ back_step f (at s (i - 1)) (at s (m + (i - 1))) x → l' ≡ set l (on_line base stride (i - 1)) x' → s' ≡ set s (m + (i - 1)) x'
      → Substituted f base stride n m l₀ s₀ l' s' (i - 1) x'
  sub-step {l} {s} {l'} {s'} {i} {x} {x'} t pos room fits ex el es =
      let b : i ≡ suc (i - 1) = omega arith in
      sub-next l s l' s' (i - 1) x x' (rw b at t) room fits ex el es

  -- all rows
  pub sub-line : {l s : List Float} {i : ℕ} {x : Float} → Substituted f base stride n m l₀ s₀ l s i x → i ≤ 0 → l ≡ put_down (on_line base stride) (solved f n m s₀) (n - 1) l₀
  sub-line {i} t none = let a : i ≡ 0 = omega arith in rw a at t.cells

  pub sub-done : {l s : List Float} {i : ℕ} {x : Float} → Substituted f base stride n m l₀ s₀ l s i x → i ≤ 0 → m + n ≤ length s₀ → s ≡ put (from m) (solved f n m s₀) n s₀
  sub-done {s} t none fits =
      from-unique m _ n s₀ nan s fits t.length-s (λ k h. t.done k (omega arith) h) (λ k h. t.todo k (omega arith)) t.past

-- ---- a line written downwards, its last entry at the end

module _ (place : ℕ → ℕ) (g : ℕ → Float) where
  -- cells of their own may be set in any order
  down-apart : (n : ℕ) (l : List Float) → ((i j : ℕ) → i < j → j < n → place j ≢ place i) → put_down place g n l ≡ put place g n l
  down-apart zero l apart = refl
  down-apart (suc n) l apart =
      down-apart n (set l (place n) (g n)) (λ i j p q. apart i j p (omega arith)) ∙ put-set place g n l (place n) (g n) (λ k h. apart k n h (omega arith))

  -- what was set in one and the same cell does not matter
  module _ (p : ℕ) (x : Float) where
    down-one : (n : ℕ) (l : List Float) → ((k : ℕ) → place k ≡ p) → set (put_down place g n l) p x ≡ set l p x
    down-one zero l one = refl
    down-one (suc n) l one = down-one n (set l (place n) (g n)) one ∙ rw (one n) (set-set l p (g n) x)

    put_one : (n : ℕ) (l : List Float) → ((k : ℕ) → place k ≡ p) → set (put place g n l) p x ≡ set l p x
    put_one zero l one = refl
    put_one (suc n) l one = rw (one n) (set-set (put place g n l) p (g n) x) ∙ put_one n l one

down-last : (base stride : ℕ) (g : ℕ → Float) (k : ℕ) (l : List Float) → set (put_down (on_line base stride) g k l) (on_line base stride k) (g k) ≡ write_line base stride g (suc k) l
down-last base zero g k l =
    let one : (j : ℕ) → on_line base 0 j ≡ on_line base 0 k = (λ j. omega arith) in
    down-one (on_line base 0) g (on_line base 0 k) (g k) k l one ∙ sym (put_one (on_line base 0) g (on_line base 0 k) (g k) k l one)
down-last base (suc s) g k l =
    ap (λ (r : List Float). set r (on_line base (suc s) k) (g k))
    (down-apart (on_line base (suc s)) g k l (λ i j p q. λ e. line-apart base (suc s) i j (omega arith) p (sym e)))

pub line-down : (base stride : ℕ) (g : ℕ → Float) (n : ℕ) (l l' l'' : List Float) (x : Float) → 0 < n
    → l' ≡ put_down (on_line base stride) g (n - 1) l → x ≡ g (n - 1) → l'' ≡ set l' (on_line base stride (n - 1)) x → l'' ≡ write_line base stride g n l
line-down base stride g n l l' l'' x pos e ex e'' =
    let a : suc (n - 1) ≡ n = omega arith in
    e'' ∙ rw (e, ex) (down-last base stride g (n - 1) l) ∙ ap (λ (k : ℕ). write_line base stride g k l) a

-- ---- a whole line: s₀ before, s₁ after elimination, s₂ after back substitution

module _ (f : Format) (first : Reduced) (inner : ℕ → Row) (last : Row) (n m : ℕ) (s₀ s₁ s₂ : List Float) (pos : 0 < n) (room : n ≤ m) (fits : m + n ≤ length s₀)
    (e₁ : s₁ ≡ line_scratch m (at (uppers (forward f first inner last n))) (at (rights (forward f first inner last n))) n s₀)
    (e₂ : s₂ ≡ put (from m) (solved f n m s₁) n s₁) where
  same : (k : ℕ) → solved f n m s₁ k ≡ solution f first inner last n k
  same k = back-ext f (at s₁) (λ j. at s₁ (m + j)) (at (uppers (forward f first inner last n))) (at (rights (forward f first inner last n))) (n - 1)
      (λ j h. rw e₁ (scratch-upper m _ _ n s₀ nan j (omega arith) room fits))
      (λ j h. rw e₁ (scratch-right m _ _ n s₀ nan j (omega arith) fits)) (n - 1 - k)

  pub line-scratch : s₂ ≡ line_scratch m (at (uppers (forward f first inner last n))) (solution f first inner last n) n s₀
  line-scratch = e₂ ∙ put-ext (from m) _ _ n s₁ (λ k h. same k) ∙ rw e₁ (scratch-solved m _ _ (solution f first inner last n) n s₀ nan fits)

  pub line-coeffs : (place : ℕ → ℕ) (c : List Float) → put place (solved f n m s₁) n c ≡ put place (solution f first inner last n) n c
  line-coeffs place c = put-ext place _ _ n c (λ k h. same k)
