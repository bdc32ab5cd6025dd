-- Laws of the count of knots below a query, and what a search by quarters keeps. Assumes nothing.
use mathlib.Core.Path.{◌≡◌, refl, sym, ◌∙◌}
use mathlib.Core.Logic.{inl, inr}
use mathlib.Core.Bool.{Bool, true, false, cond}
use mathlib.Core.List.{List, [], ◌∷◌}
use Prim.Native.Nat.{ℕ, zero, suc, ◌+◌, ◌-◌, ◌*◌, ◌≤◌, ◌<◌}
use native.Mathlib.Nat.{eq-or-lt_of_le}
use native.Mathlib.Omega.{arith}
use lib.ListN.{length, get_or}
use lib.Ieee.{Float, nan, inf, fin, lt}
use Rattle.shape.proofs.Cells.{lt-or-ge}
use Rattle.knots.specs.Knots.{rises, count_below}
use Rattle.knots.specs.Window.{Between}
use Rattle.knots.proofs.Compare.{lt-trans-float}
use Rattle.knots.proofs.Increase.{in_order}

one-or-none : (b : Bool) → cond b 1 0 ≤ 1
one-or-none true = omega arith
one-or-none false = omega arith

pub count-le-length : (ks : List Float) (x : Float) → count_below ks x ≤ length ks
unfolding count_below
count-le-length [] x = omega arith
count-le-length (k ∷ ks) x = omega (arith, one-or-none (lt k x), count-le-length ks x)

-- nothing is below a NaN
pub not-below-nan : (k : Float) → lt k nan ≡ false
unfolding lt
not-below-nan nan = refl
not-below-nan (inf s) = refl
not-below-nan (fin s m e) = refl

pub count-nan : (ks : List Float) → count_below ks nan ≡ 0
unfolding count_below
count-nan [] = refl
count-nan (k ∷ ks) = rw (not-below-nan k, count-nan ks)

-- the count, where the knots before c are below x and those from c on are not
counted : (ks : List Float) (x : Float) (c : ℕ) → c ≤ length ks
    → ((i : ℕ) → i < c → lt (get_or ks i nan) x ≡ true) → ((i : ℕ) → c ≤ i → i < length ks → lt (get_or ks i nan) x ≡ false) → count_below ks x ≡ c
unfolding count_below
counted [] x c h low high = omega arith
counted (k ∷ ks) x zero h low high =
    let e = counted ks x zero (omega arith) (λ i l. absurd (let q : ⊥ = omega arith in q)) (λ i l g. high (suc i) (omega arith) (omega arith)) in
    rw (high 0 (omega arith) (omega arith)) (omega arith)
counted (k ∷ ks) x (suc c) h low high =
    let e = counted ks x c (omega arith) (λ i l. low (suc i) (omega arith)) (λ i l g. high (suc i) (omega arith) (omega arith)) in
    rw (low 0 (omega arith)) (omega arith)

-- ---- the search: the knots before low are below x, those from high on are not

pub between_start : (ks : List Float) (x : Float) → Between ks x 0 (0 + length ks)
between_start ks x = record {
  low-high = omega arith;
  high_end = omega arith;
  below = λ i h. absurd (let q : ⊥ = omega arith in q);
  not-below = λ i h g. absurd (let q : ⊥ = omega arith in q);
}

-- where knot mid is below x, so are those before it
lower : (ks : List Float) → rises ks ≡ true → (x : Float) (i mid : ℕ) → i ≤ mid → mid < length ks → lt (get_or ks mid nan) x ≡ true → lt (get_or ks i nan) x ≡ true
lower ks rise x i mid l here h = elim (eq-or-lt_of_le l) [
  | inl e ↦ rw e h
  | inr e ↦ lt-trans-float (get_or ks i nan) (get_or ks mid nan) x (in_order ks rise i mid e here) h
]

-- where it is not, neither are those after it
upper : (ks : List Float) → rises ks ≡ true → (x : Float) (mid i : ℕ) → mid ≤ i → i < length ks → lt (get_or ks mid nan) x ≡ false → lt (get_or ks i nan) x ≡ false
upper ks rise x mid i l here h = go (lt (get_or ks i nan) x) refl
  where
    go : (t : Bool) → lt (get_or ks i nan) x ≡ t → t ≡ false
    go false e = refl
    go true e = sym (lower ks rise x mid i l here e) ∙ h

module _ {ks : List Float} {x : Float} {low high : ℕ} (b : Between ks x low high) (rise : rises ks ≡ true) (mid : ℕ) (above : low ≤ mid) (under : mid < high) where
  between-above : lt (get_or ks mid nan) x ≡ true → Between ks x (mid + 1) high
  between-above h = record {
    low-high = omega arith;
    high_end = b.high_end;
    below = λ i l. lower ks rise x i mid (omega arith) (omega (arith, b.high_end)) h;
    not-below = b.not-below;
  }

  between-below : lt (get_or ks mid nan) x ≡ false → Between ks x low mid
  between-below h = record {
    low-high = above;
    high_end = omega (arith, b.high_end);
    below = b.below;
    not-below = λ i l g. upper ks rise x mid i l g h;
  }

-- the same start, and an end further on
wider : {ks : List Float} {x : Float} {low low' high high' : ℕ} → Between ks x low high → low' ≡ low → high ≤ high' → high' ≤ length ks → Between ks x low' high'
wider b e further end =
    rw e (record {
      low-high = omega (arith, b.low-high);
      high_end = end;
      below = b.below;
      not-below = λ i l g. b.not-below i (omega arith) g;
    })

mixed : {b : Bool} → b ≡ true → b ≡ false → ⊥
mixed p q = let z : ◌≡◌ {A = ℕ} 0 1 = cc in let y : ⊥ = omega arith in y

-- ---- the knots at the ends of the first three quarters

module _ (ks : List Float) (x : Float) (low len q : ℕ) (b : Between ks x low (low + len)) (rise : rises ks ≡ true) (some : 1 ≤ q) (room : 4 * q ≤ len) where
  abbrev one : ℕ
  one = low + (q - 1)

  abbrev two : ℕ
  two = low + (2 * q - 1)

  abbrev three : ℕ
  three = low + (3 * q - 1)

  -- what the window is, by the number of these knots that are below x
  abbrev Next : ℕ → Type 0
  Next count = Between ks x (low + count * q) (low + count * q + (len - 3 * q))

  quarters-by : (s t u : Bool) → lt (get_or ks one nan) x ≡ s → lt (get_or ks two nan) x ≡ t → lt (get_or ks three nan) x ≡ u → Next (cond s 1 0 + cond t 1 0 + cond u 1 0)
  quarters-by false false false e₁ e₂ e₃ = wider (between-below b rise one (omega arith) (omega arith) e₁) (omega arith) (omega arith) (omega (arith, b.high_end))
  quarters-by true false false e₁ e₂ e₃ =
      wider (between-below (between-above b rise one (omega arith) (omega arith) e₁) rise two (omega arith) (omega arith) e₂) (omega arith) (omega arith) (omega (arith, b.high_end))
  quarters-by true true false e₁ e₂ e₃ =
      wider (between-below (between-above b rise two (omega arith) (omega arith) e₂) rise three (omega arith) (omega arith) e₃) (omega arith) (omega arith) (omega (arith, b.high_end))
  quarters-by true true true e₁ e₂ e₃ = wider (between-above b rise three (omega arith) (omega arith) e₃) (omega arith) (omega arith) (omega (arith, b.high_end))
  quarters-by false true u e₁ e₂ e₃ = absurd (mixed (lower ks rise x one two (omega arith) (omega (arith, b.high_end)) e₂) e₁)
  quarters-by true false true e₁ e₂ e₃ = absurd (mixed (lower ks rise x two three (omega arith) (omega (arith, b.high_end)) e₃) e₂)
  quarters-by false false true e₁ e₂ e₃ = absurd (mixed (lower ks rise x two three (omega arith) (omega (arith, b.high_end)) e₃) e₂)

  pub between-quarters : (first second third : ℕ) → first ≡ cond (lt (get_or ks one nan) x) 1 0 → second ≡ cond (lt (get_or ks two nan) x) 1 0 → third ≡ cond (lt (get_or ks three nan) x) 1 0
      → Next (first + second + third)
  between-quarters first second third e₁ e₂ e₃ = rw (e₁, e₂, e₃) (quarters-by _ _ _ refl refl refl)

-- ---- counting what is left: of the knots before i, those before c are below x and the others are not

pub record Counting (ks : List Float) (x : Float) (high c i : ℕ) : Type 0 where
  pub some : c ≤ i
  pub most : i ≤ high
  pub high_end : high ≤ length ks
  pub below : (k : ℕ) → k < c → lt (get_or ks k nan) x ≡ true
  pub not-below : (k : ℕ) → c ≤ k → k < i → lt (get_or ks k nan) x ≡ false
  pub rest : (k : ℕ) → high ≤ k → k < length ks → lt (get_or ks k nan) x ≡ false

module _ {ks : List Float} {x : Float} {high c i : ℕ} (w : Counting ks x high c i) where
  -- a knot below x has none before it that is not
  counting_more : rises ks ≡ true → i < high → lt (get_or ks i nan) x ≡ true → Counting ks x high (c + 1) (i + 1)
  counting_more rise h e = elim (eq-or-lt_of_le w.some) [
    | inl q ↦ record {
      some = omega arith;
      most = omega arith;
      high_end = w.high_end;
      below = λ k l. lower ks rise x k i (omega arith) (omega (arith, w.high_end)) e;
      not-below = λ k l g. absurd (let z : ⊥ = omega arith in z);
      rest = w.rest;
    }
    | inr q ↦ absurd (mixed (lower ks rise x c i (omega arith) (omega (arith, w.high_end)) e) (w.not-below c (omega arith) q))
  ]

  counting-same : i < high → lt (get_or ks i nan) x ≡ false → Counting ks x high c (i + 1)
  counting-same h e = record {
    some = omega (arith, w.some);
    most = omega arith;
    high_end = w.high_end;
    below = w.below;
    not-below = λ k l g. elim (eq-or-lt_of_le (let q : k ≤ i = omega arith in q)) [
      | inl q ↦ rw q e
      | inr q ↦ w.not-below k l q
    ];
    rest = w.rest;
  }

  pub counting-next : rises ks ≡ true → i < high → Counting ks x high (c + cond (lt (get_or ks i nan) x) 1 0) (i + 1)
  counting-next rise h = go (lt (get_or ks i nan) x) refl
    where
      go : (t : Bool) → lt (get_or ks i nan) x ≡ t → Counting ks x high (c + cond t 1 0) (i + 1)
      go true e = counting_more rise h e
      go false e = let q : c + 0 ≡ c = omega arith in rw q (counting-same h e)

  pub counting-done : high ≤ i → c ≡ count_below ks x
  counting-done h =
      sym (counted ks x c (omega (arith, w.some, w.most, w.high_end)) w.below (λ k l g. elim (lt-or-ge k high) [
        | inl q ↦ w.not-below k l (omega arith)
        | inr q ↦ w.rest k q g
      ]))
