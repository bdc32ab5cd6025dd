-- Laws of `line_scratch`: reading a number, one more row, and what stood there before. Assumes nothing.
use mathlib.Core.Path.{◌≡◌, refl, sym, ap, ◌∙◌}
use mathlib.Core.Logic.{◌≢◌}
use mathlib.Core.List.{List}
use Prim.Native.Nat.{ℕ, zero, suc, ◌+◌, ◌≤◌, ◌<◌}
use native.Mathlib.Numerals.{add-one}
use native.Mathlib.Omega.{arith}
use lib.ListN.{length, get_or, set}
use lib.Seq.{set-set, set_comm}
use Rattle.shape.specs.Cells.{put, from}
use Rattle.shape.specs.Fit.{line_scratch}
use Rattle.shape.proofs.Cells.{length-put, put-ext, from_in, from-before, from-over}

module _ {A : Type 0} (place : ℕ → ℕ) (g : ℕ → A) where
  -- a cell at none of the places may be set before or after
  pub put-set : (n : ℕ) (l : List A) (j : ℕ) (x : A) → ((k : ℕ) → k < n → j ≢ place k) → put place g n (set l j x) ≡ set (put place g n l) j x
  put-set zero l j x away = refl
  put-set (suc n) l j x away =
      rw (put-set n l j x (λ k h. away k (omega arith))) (set_comm (put place g n l) j (place n) x (g n) (away n (omega arith)))

  -- what stood at the first place does not matter
  pub put-over : (n : ℕ) (l : List A) (x : A) → put place g (suc n) (set l (place 0) x) ≡ put place g (suc n) l
  put-over zero l x = set-set l (place 0) x (g 0)
  put-over (suc n) l x = ap (λ (r : List A). set r (place (suc n)) (g (suc n))) (put-over n l x)

-- cells at other places may be put before or after
pub put-put : {A : Type 0} (p q : ℕ → ℕ) (g h : ℕ → A) (n k : ℕ) (l : List A) → ((i j : ℕ) → i < n → j < k → q j ≢ p i) → put p g n (put q h k l) ≡ put q h k (put p g n l)
put-put p q g h n zero l away = refl
put-put {A = A} p q g h n (suc k) l away =
    put-set p g n (put q h k l) (q k) (h k) (λ i hi. away i k hi (omega arith))
    ∙ ap (λ (r : List A). set r (q k) (h k)) (put-put p q g h n k l (λ i j hi hj. away i j hi (omega arith)))

module _ {A : Type 0} (m : ℕ) (u g : ℕ → A) where
  pub length-scratch : (n : ℕ) (l : List A) → length (line_scratch m u g n l) ≡ length l
  unfolding line_scratch
  length-scratch n l = length-put (from m) g n (put (from 0) u n l) ∙ length-put (from 0) u n l

  -- upper number k, and right side k
  module _ (n : ℕ) (l : List A) (d : A) where
    pub scratch-upper : (k : ℕ) → k < n → n ≤ m → m + n ≤ length l → get_or (line_scratch m u g n l) k d ≡ u k
    unfolding line_scratch
    scratch-upper k h room fits =
        let z : 0 + k ≡ k = omega arith in
        from-before m g n (put (from 0) u n l) d k (omega arith) ∙ rw z at (from_in 0 u n l d k h (omega arith))

    pub scratch-right : (k : ℕ) → k < n → m + n ≤ length l → get_or (line_scratch m u g n l) (m + k) d ≡ g k
    unfolding line_scratch
    scratch-right k h fits = from_in m g n (put (from 0) u n l) d k h (rw (length-put (from 0) u n l) fits)

  -- one more row
  pub scratch-next : (i : ℕ) (l r r' : List A) (x y : A) → i < m → r ≡ line_scratch m u g i l → r' ≡ set (set r i x) (m + i) y → x ≡ u i → y ≡ g i → r' ≡ line_scratch m u g (i + 1) l
  unfolding line_scratch
  scratch-next i l r r' x y h e e' v w =
      let z : 0 + i ≡ i = omega arith in
      let past : put (from m) g i (set (put (from 0) u i l) i (u i)) ≡ set (put (from m) g i (put (from 0) u i l)) i (u i) = put-set (from m) g i (put (from 0) u i l) i (u i) (λ k p q. omega arith) in
      rw (add-one i) (e' ∙ rw (e, v, w, z, past))

  -- what row 0 was before does not matter
  pub scratch-over : (n : ℕ) (l : List A) (x y : A) → 0 < n → n ≤ m → line_scratch m u g n (set (set l 0 x) m y) ≡ line_scratch m u g n l
  unfolding line_scratch
  scratch-over zero l x y pos h = absurd (omega (arith, pos))
  scratch-over (suc n) l x y pos h =
      let z : m + 0 ≡ m = omega arith in
      let r = put (from 0) u (suc n) l in
      ap (put (from m) g (suc n)) (put-set (from 0) u (suc n) (set l 0 x) m y (λ k p q. omega arith) ∙ ap (λ (w : List A). set w m y) (put-over (from 0) u n l x))
      ∙ ap (λ (k : ℕ). put (from m) g (suc n) (set r k y)) (sym z)
      ∙ put-over (from m) g n r y

  -- new right sides
  pub scratch-solved : (h : ℕ → A) (n : ℕ) (l : List A) (d : A) → m + n ≤ length l → put (from m) h n (line_scratch m u g n l) ≡ line_scratch m u h n l
  unfolding line_scratch
  scratch-solved h n l d fits = from-over m h g n (put (from 0) u n l) d (rw (length-put (from 0) u n l) fits)

-- only the values below n matter
pub scratch-ext : {A : Type 0} (m : ℕ) (u u' g g' : ℕ → A) (n : ℕ) (l : List A)
    → ((k : ℕ) → k < n → u k ≡ u' k) → ((k : ℕ) → k < n → g k ≡ g' k) → line_scratch m u g n l ≡ line_scratch m u' g' n l
unfolding line_scratch
scratch-ext m u u' g g' n l eu eg = rw (put-ext (from 0) u u' n l eu, put-ext (from m) g g' n (put (from 0) u' n l) eg)

-- what the line before left does not matter
pub scratch-again : {A : Type 0} (m : ℕ) (u g u' g' : ℕ → A) (n : ℕ) (l : List A) (d : A) → n ≤ m → m + n ≤ length l → line_scratch m u g n (line_scratch m u' g' n l) ≡ line_scratch m u g n l
unfolding line_scratch
scratch-again m u g u' g' n l d room fits =
    let below = put (from 0) u' n l in
    let len : length (put (from 0) u n below) ≡ length l = length-put (from 0) u n below ∙ length-put (from 0) u' n l in
    ap (put (from m) g n) (put-put (from 0) (from m) u g' n n below (λ i j hi hj. λ e. omega arith))
    ∙ from-over m g g' n (put (from 0) u n below) d (rw len fits)
    ∙ ap (put (from m) g n) (from-over 0 u u' n l d (omega arith))
