-- The lines of an axis part the cells: cell and (line, place) determine one another. Assumes nothing.
use mathlib.Core.Path.{◌≡◌, sym, ap, ◌∙◌}
use mathlib.Core.List.{List, [], ◌∷◌}
use Prim.Native.Nat.{ℕ, zero, suc, ◌+◌, ◌*◌, ◌/◌, ◌%◌, ◌≤◌, ◌<◌, min}
use native.Mathlib.Nat.{mul-add-div_right, mul-add-mod_self_right, div-eq_of_lt, mod-eq_of_lt, mod-lt, div-add-mod', div-div-eq-div-mul, mul_comm, mul-pos, div-lt_iff_lt-mul, mul-le-mul_right, not-suc-le-zero, le_of_suc-le-suc, one-mul}
use native.Mathlib.Omega.{arith}
use lib.ListN.{length, get_or, take, drop, length-take}
use lib.Seq.{get_or-take, length-take-le}
use Rattle.shape.specs.Shape.{product, size, points, NotEmpty, stride, lines, first_cell, line_of, place_of, cell_at, line_at, place_at}

-- ---- quotient and remainder are determined

pub quot : {m : ℕ} (q : ℕ) {r : ℕ} → r < m → (q * m + r) / m ≡ q
quot {m} q {r} h = mul-add-div_right {m = m} (omega arith) q r ∙ rw (div-eq_of_lt h) (omega arith)

pub rem : {m : ℕ} (q : ℕ) {r : ℕ} → r < m → (q * m + r) % m ≡ r
rem {m} q {r} h = mul-add-mod_self_right q m r ∙ mod-eq_of_lt h

-- ---- one axis: n points, s apart; u lines' worth of earlier axes

module _ (n s : ℕ) (hs : 0 < s) where
  -- i * s + r stays below n * s
  inner : {i r : ℕ} → i < n → r < s → i * s + r < n * s
  inner {i} {r} hi hr = omega (arith, mul-le-mul_right s hi)

  whole : (q : ℕ) {i r : ℕ} → i < n → r < s → (q * (n * s) + r + i * s) / (n * s) ≡ q
  whole q {i} {r} hi hr = rw (let e : q * (n * s) + r + i * s ≡ q * (n * s) + (i * s + r) = omega arith in e) (quot q (inner hi hr))

  low : (q i : ℕ) {r : ℕ} → r < s → (q * (n * s) + r + i * s) % s ≡ r
  low q i {r} hr = rw (let e : q * (n * s) + r + i * s ≡ (q * n + i) * s + r = omega arith in e) (rem (q * n + i) hr)

  mid : (q : ℕ) {i r : ℕ} → i < n → r < s → (q * (n * s) + r + i * s) / s % n ≡ i
  mid q {i} {r} hi hr =
      rw (let e : q * (n * s) + r + i * s ≡ (q * n + i) * s + r = omega arith in e)
      (rw (quot (q * n + i) hr) (rem q hi))

  -- a number is its three digits
  digits : (c : ℕ) → c / (n * s) * (n * s) + c % s + c / s % n * s ≡ c
  digits c =
      let e₁ : c / s * s + c % s ≡ c = div-add-mod' c s in
      let e₂ : c / s / n * n + c / s % n ≡ c / s = div-add-mod' (c / s) n in
      let e₃ : c / s / n ≡ c / (n * s) = div-div-eq-div-mul c s n ∙ ap (λ (x : ℕ). c / x) (mul_comm s n) in
      let e₄ : c / (n * s) * n + c / s % n ≡ c / s = rw e₃ at e₂ in
      let e₅ : (c / (n * s) * n + c / s % n) * s ≡ c / s * s = ap (λ (x : ℕ). x * s) e₄ in
      omega arith

  -- cell and (line, place) determine one another
  pub line_of-cell : (l i : ℕ) → i < n → line_of n s (first_cell n s l + i * s) ≡ l
  unfolding line_of first_cell
  line_of-cell l i h =
      let hr : l % s < s = mod-lt l hs in
      rw (whole (l / s) h hr, low (l / s) i hr) (div-add-mod' l s)

  pub place_of-cell : (l i : ℕ) → i < n → place_of n s (first_cell n s l + i * s) ≡ i
  unfolding place_of first_cell
  place_of-cell l i h = mid (l / s) h (mod-lt l hs)

  pub cell-line_of : (c : ℕ) → first_cell n s (line_of n s c) + place_of n s c * s ≡ c
  unfolding line_of place_of first_cell
  cell-line_of c =
      let hr : c % s < s = mod-lt c hs in
      rw (quot (c / (n * s)) hr, rem (c / (n * s)) hr) (digits c)

pub place_of-lt : (n s c : ℕ) → 0 < n → place_of n s c < n
unfolding place_of
place_of-lt n s c h = mod-lt (c / s) h

-- ---- the product of the lengths, cut at an axis

pub cut : (dims : List ℕ) (a : ℕ) → a < length dims → size dims ≡ product (take a dims) * (points dims a * stride dims a)
unfolding product
cut [] a h = absurd (not-suc-le-zero h)
cut (n ∷ ns) zero h = sym (one-mul (n * product ns))
cut (n ∷ ns) (suc a) h =
    let e : product ns ≡ product (take a ns) * (get_or ns a 0 * product (drop (suc a) ns)) = cut ns a (le_of_suc-le-suc h) in
    ap (λ (x : ℕ). n * x) e ∙ omega arith

pub product-pos : (dims : List ℕ) → NotEmpty dims → 0 < product dims
unfolding product
product-pos [] h = omega arith
product-pos (n ∷ ns) h = mul-pos (h 0 (omega arith)) (product-pos ns (λ a b. h (suc a) (omega arith)))

pub drop-not-empty : (dims : List ℕ) (k : ℕ) → NotEmpty dims → NotEmpty (drop k dims)
drop-not-empty dims zero h = h
drop-not-empty [] (suc k) h = h
drop-not-empty (n ∷ ns) (suc k) h = drop-not-empty ns k (λ a b. h (suc a) (omega arith))

pub take-not-empty : (dims : List ℕ) (k : ℕ) → NotEmpty dims → NotEmpty (take k dims)
take-not-empty dims k h a b =
    let c : a < min k (length dims) = rw length-take at b in
    rw (get_or-take k dims a 0 (omega arith)) (h a (omega arith))

-- the axes from i up to, not including, j have cells
pub span_pos : (lens : List ℕ) (i j : ℕ) → ((a : ℕ) → a < j → 0 < get_or lens a 0) → j ≤ length lens → 0 < product (drop i (take j lens))
span_pos lens i j f k =
    product-pos (drop i (take j lens))
    (drop-not-empty (take j lens) i (λ a h. let h' : a < j = rw (length-take-le j lens k) at h in rw (get_or-take j lens a 0 h') (f a h')))

pub stride-pos : (dims : List ℕ) → NotEmpty dims → (a : ℕ) → 0 < stride dims a
stride-pos dims h a = product-pos (drop (suc a) dims) (drop-not-empty dims (suc a) h)

-- ---- cell and (line, place)

module _ (dims : List ℕ) (ne : NotEmpty dims) (a : ℕ) where
  pub line_at-cell_at : (l i : ℕ) → i < points dims a → line_at dims a (cell_at dims a l i) ≡ l
  line_at-cell_at l i h = line_of-cell (points dims a) (stride dims a) (stride-pos dims ne a) l i h

  pub place_at-cell_at : (l i : ℕ) → i < points dims a → place_at dims a (cell_at dims a l i) ≡ i
  place_at-cell_at l i h = place_of-cell (points dims a) (stride dims a) (stride-pos dims ne a) l i h

  pub cell_at-line_at : (c : ℕ) → cell_at dims a (line_at dims a c) (place_at dims a c) ≡ c
  cell_at-line_at c = cell-line_of (points dims a) (stride dims a) (stride-pos dims ne a) c

  pub place_at-lt : a < length dims → (c : ℕ) → place_at dims a c < points dims a
  place_at-lt h c = place_of-lt (points dims a) (stride dims a) c (ne a h)

  pub line_at-lt : a < length dims → (c : ℕ) → c < size dims → line_at dims a c < lines dims a
  unfolding line_of
  line_at-lt h c hc =
      let hs : 0 < stride dims a = stride-pos dims ne a in
      let q : ℕ = c / (points dims a * stride dims a) in
      let hq : q < product (take a dims) = (div-lt_iff_lt-mul (mul-pos (ne a h) hs)).1 (rw (cut dims a h) at hc) in
      omega (arith, mod-lt c hs, mul-le-mul_right (stride dims a) hq)

  pub cell_at-lt : a < length dims → (l i : ℕ) → l < lines dims a → i < points dims a → cell_at dims a l i < size dims
  unfolding first_cell
  cell_at-lt h l i hl hi =
      let s : ℕ = stride dims a in
      let n : ℕ = points dims a in
      let hs : 0 < s = stride-pos dims ne a in
      let hq : l / s < product (take a dims) = (div-lt_iff_lt-mul hs).1 hl in
      rw (cut dims a h) (omega (arith, inner n s hs hi (mod-lt l hs), mul-le-mul_right (n * s) hq))
