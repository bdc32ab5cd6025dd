-- Laws of tests at the numbers below n: at some, at all, at how many; and of sums over them. Assumes nothing.
use mathlib.Core.Path.{◌≡◌, refl, sym, ap, ◌∙◌}
use mathlib.Core.Logic.{◌≢◌, ◌⊎◌, inl, inr}
use mathlib.Core.Bool.{Bool, true, false, cond, not, ◌&&◌, ◌||◌}
use Prim.Native.Nat.{ℕ, zero, suc, ◌+◌, ◌≤◌, ◌<◌, min}
use native.Mathlib.Nat.{not-suc-le-zero, le_of_suc-le-suc, eq-or-lt_of_le}
use native.Mathlib.Numerals.{add-one}
use native.Mathlib.Omega.{arith}
use lib.Dec.{ltb}
use borrow.Author.Tests.{ltb-true, ltb-false, lt-ltb}
use Rattle.shape.specs.Below.{any_below, all_below, how_many, sum_below}

-- ---- truth values

pub apart : (x : Bool) → x ≡ true → x ≡ false → ⊥
apart x p q = let z : ◌≡◌ {A = ℕ} 0 1 = cc in omega arith

pub is_false : (x : Bool) → (x ≡ true → ⊥) → x ≡ false
is_false true f = absurd (f refl)
is_false false f = refl

pub same_test : (x y : Bool) → (x ≡ true → y ≡ true) → (y ≡ true → x ≡ true) → x ≡ y
same_test true y f g = sym (f refl)
same_test false y f g = sym (is_false y (λ e. apart false (g e) refl))

pub either : (x : Bool) → (x ≡ true) ⊎ (x ≡ false)
either true = inl refl
either false = inr refl

pub and_both : (x y : Bool) → x && y ≡ true → (x ≡ true) × (y ≡ true)
and_both true y e = (refl, e)
and_both false y e = absurd (apart false e refl)

-- ---- at some number below n

module _ (test : ℕ → Bool) where
  pub any_at : (n i : ℕ) → i < n → test i ≡ true → any_below test n ≡ true
  unfolding any_below
  any_at zero i h e = absurd (not-suc-le-zero h)
  any_at (suc n) i h e = go (eq-or-lt_of_le (le_of_suc-le-suc h)) (test n) refl (λ k. any_at n i k e)
    where
      go : (i ≡ n) ⊎ (i < n) → (b : Bool) → test n ≡ b → (i < n → any_below test n ≡ true) → b || any_below test n ≡ true
      go (inl q) b r ih = let t : b ≡ true = sym r ∙ ap test (sym q) ∙ e in rw t
      go (inr k) true r ih = refl
      go (inr k) false r ih = ih k

  pub any_none : (n : ℕ) → ((i : ℕ) → i < n → test i ≡ false) → any_below test n ≡ false
  unfolding any_below
  any_none zero f = refl
  any_none (suc n) f = rw (f n (omega arith)) (any_none n (λ i h. f i (omega arith)))

  pub none-at : (n : ℕ) → any_below test n ≡ false → (i : ℕ) → i < n → test i ≡ false
  none-at n e i h = is_false (test i) (λ t. apart (any_below test n) (any_at n i h t) e)

  -- a test with the same outcome at all of them, of which there are some
  pub any_same : (n : ℕ) (v : Bool) → 0 < n → ((i : ℕ) → i < n → test i ≡ v) → any_below test n ≡ v
  any_same n true h f = any_at n 0 h (f 0 h)
  any_same n false h f = any_none n f

  -- a loop that goes up: none below i yet
  pub record NoneYet (n i : ℕ) : Type 0 where
    pub most : i ≤ n
    pub none : any_below test i ≡ false

  pub none-start : (n : ℕ) → NoneYet n 0
  unfolding any_below
  none-start n = record { most = omega arith; none = refl }

  pub none-step : (n i : ℕ) → NoneYet n i → i < n → test i ≡ false → NoneYet n (i + 1)
  unfolding any_below
  none-step n i w h t = record { most = omega arith; none = rw (add-one i, t) w.none }

  pub none_done : (n i : ℕ) → NoneYet n i → n ≤ i → false ≡ any_below test n
  none_done n i w h = let same : i ≡ n = omega (arith, w.most) in rw same at (sym w.none)

  pub one_found : (n i : ℕ) → i < n → test i ≡ true → true ≡ any_below test n
  one_found n i h t = sym (any_at n i h t)

pub any-ext : (p q : ℕ → Bool) (n : ℕ) → ((i : ℕ) → i < n → p i ≡ q i) → any_below p n ≡ any_below q n
unfolding any_below
any-ext p q zero f = refl
any-ext p q (suc n) f = rw (f n (omega arith), any-ext p q n (λ i h. f i (omega arith)))

-- ---- at all numbers below n

module _ (test : ℕ → Bool) where
  pub all-intro : (n : ℕ) → ((i : ℕ) → i < n → test i ≡ true) → all_below test n ≡ true
  unfolding all_below
  all-intro zero f = refl
  all-intro (suc n) f = rw (f n (omega arith)) (all-intro n (λ i h. f i (omega arith)))

  pub all-at : (n : ℕ) → all_below test n ≡ true → (i : ℕ) → i < n → test i ≡ true
  unfolding all_below
  all-at zero e i h = absurd (not-suc-le-zero h)
  all-at (suc n) e i h =
      let both = and_both (test n) (all_below test n) e in
      go both.0 (eq-or-lt_of_le (le_of_suc-le-suc h)) (λ k. all-at n both.1 i k)
    where
      go : test n ≡ true → (i ≡ n) ⊎ (i < n) → (i < n → test i ≡ true) → test i ≡ true
      go t (inl q) ih = rw q t
      go t (inr k) ih = ih k

  -- it passes at all of them, or fails at one
  pub all-or-one : (n : ℕ) → ((i : ℕ) → i < n → test i ≡ true) ⊎ ((i : ℕ) × (i < n) × (test i ≡ false))
  all-or-one zero = inl (λ i h. absurd (not-suc-le-zero h))
  all-or-one (suc n) = go (all-or-one n) (either (test n))
    where
      last : ((i : ℕ) → i < n → test i ≡ true) → test n ≡ true → (i : ℕ) → (i ≡ n) ⊎ (i < n) → test i ≡ true
      last f e i (inl q) = rw q e
      last f e i (inr k) = f i k

      go : ((i : ℕ) → i < n → test i ≡ true) ⊎ ((i : ℕ) × (i < n) × (test i ≡ false)) → (test n ≡ true) ⊎ (test n ≡ false)
          → ((i : ℕ) → i < suc n → test i ≡ true) ⊎ ((i : ℕ) × (i < suc n) × (test i ≡ false))
      go (inr x) r = inr (x.0, (let h : x.0 < n = x.1 in omega arith), x.2)
      go (inl f) (inl e) = inl (λ i h. last f e i (eq-or-lt_of_le (le_of_suc-le-suc h)))
      go (inl f) (inr e) = inr (n, omega arith, e)

  -- it fails at none of them
  pub all-not : (n : ℕ) → all_below (λ i. not (test i)) n ≡ not (any_below test n)
  unfolding all_below any_below
  all-not zero = refl
  all-not (suc n) = go (test n) (all-not n)
    where
      go : (b : Bool) → all_below (λ i. not (test i)) n ≡ not (any_below test n) → not b && all_below (λ i. not (test i)) n ≡ not (b || any_below test n)
      go true ih = refl
      go false ih = ih

pub all-ext : (p q : ℕ → Bool) (n : ℕ) → ((i : ℕ) → i < n → p i ≡ q i) → all_below p n ≡ all_below q n
unfolding all_below
all-ext p q zero f = refl
all-ext p q (suc n) f = rw (f n (omega arith), all-ext p q n (λ i h. f i (omega arith)))

-- all numbers below n are below m: n is at most m
pub all-ltb : (n m : ℕ) → all_below (λ i. ltb i m) n ≡ not (ltb m n)
all-ltb n m = go (ltb m n) refl
  where
    go : (t : Bool) → ltb m n ≡ t → all_below (λ i. ltb i m) n ≡ not t
    go true e =
        let h : m < n = ltb-true m n e in
        is_false (all_below (λ i. ltb i m) n) (λ f. let z : m < m = ltb-true m m (all-at (λ i. ltb i m) n f m h) in omega arith)
    go false e =
        let h : n ≤ m = ltb-false m n e in
        all-intro (λ i. ltb i m) n (λ i k. lt-ltb i m (omega arith))

-- ---- at how many numbers below n

pub count-ext : (p q : ℕ → Bool) (n : ℕ) → ((i : ℕ) → i < n → p i ≡ q i) → how_many p n ≡ how_many q n
unfolding how_many
count-ext p q zero f = refl
count-ext p q (suc n) f = rw (f n (omega arith), count-ext p q n (λ i h. f i (omega arith)))

pub count-ltb : (n m : ℕ) → how_many (λ i. ltb i m) n ≡ min n m
unfolding how_many
count-ltb zero m = omega arith
count-ltb (suc n) m = go (ltb n m) refl (count-ltb n m)
  where
    go : (t : Bool) → ltb n m ≡ t → how_many (λ i. ltb i m) n ≡ min n m → cond t 1 0 + how_many (λ i. ltb i m) n ≡ min (suc n) m
    go true e ih = let h : n < m = ltb-true n m e in omega arith
    go false e ih = let h : m ≤ n = ltb-false n m e in omega arith

-- it passes at n of them exactly where it passes at all of them
pub count-le : (test : ℕ → Bool) (n : ℕ) → how_many test n ≤ n
unfolding how_many
count-le test zero = omega arith
count-le test (suc n) = go (test n) (count-le test n)
  where
    go : (t : Bool) → how_many test n ≤ n → cond t 1 0 + how_many test n ≤ suc n
    go true h = omega arith
    go false h = omega arith

pub count-all : (test : ℕ → Bool) (n : ℕ) → ((i : ℕ) → i < n → test i ≡ true) → how_many test n ≡ n
unfolding how_many
count-all test zero f = refl
count-all test (suc n) f = rw (f n (omega arith)) (omega (arith, count-all test n (λ i h. f i (omega arith))))

pub count-full : (test : ℕ → Bool) (n : ℕ) → how_many test n ≡ n → (i : ℕ) → i < n → test i ≡ true
unfolding how_many
count-full test zero e i h = absurd (not-suc-le-zero h)
count-full test (suc n) e i h = go (test n) refl e (eq-or-lt_of_le (le_of_suc-le-suc h)) (λ r k. count-full test n r i k)
  where
    go : (t : Bool) → test n ≡ t → cond t 1 0 + how_many test n ≡ suc n → (i ≡ n) ⊎ (i < n) → (how_many test n ≡ n → i < n → test i ≡ true) → test i ≡ true
    go false r k j ih = absurd (omega (arith, count-le test n, k))
    go true r k (inl q) ih = rw q r
    go true r k (inr l) ih = ih (omega arith) l

-- ---- sums

pub sum_below-ext : (f g : ℕ → ℕ) (n : ℕ) → ((i : ℕ) → i < n → g i ≡ f i) → sum_below g n ≡ sum_below f n
unfolding sum_below
sum_below-ext f g zero h = refl
sum_below-ext f g (suc n) h = omega (arith, h n (omega arith), sum_below-ext f g n (λ i k. h i (omega arith)))

pub sum_below-zero : (f : ℕ → ℕ) (n : ℕ) → ((i : ℕ) → i < n → f i ≡ 0) → sum_below f n ≡ 0
unfolding sum_below
sum_below-zero f zero h = refl
sum_below-zero f (suc n) h = omega (arith, h n (omega arith), sum_below-zero f n (λ i k. h i (omega arith)))

-- one term grows by d
pub sum_below-one : (f g : ℕ → ℕ) (n j d : ℕ) → j < n → g j ≡ f j + d → ((i : ℕ) → i < n → i ≢ j → g i ≡ f i) → sum_below g n ≡ sum_below f n + d
unfolding sum_below
sum_below-one f g zero j d h e r = absurd (not-suc-le-zero h)
sum_below-one f g (suc n) j d h e r =
    go (eq-or-lt_of_le (le_of_suc-le-suc h)) (λ k. sum_below-one f g n j d k e (λ i l. r i (omega arith)))
  where
    go : (j ≡ n) ⊎ (j < n) → (j < n → sum_below g n ≡ sum_below f n + d) → g n + sum_below g n ≡ f n + sum_below f n + d
    go (inl q) ih =
        let s : sum_below g n ≡ sum_below f n = sum_below-ext f g n (λ i k. r i (omega arith) (omega arith)) in
        let t : g n ≡ f n + d = rw q at e in
        omega arith
    go (inr k) ih = omega (arith, ih k, r n (omega arith) (omega arith))
