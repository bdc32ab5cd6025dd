-- The first cell of a line is the Rust's `line_base_index`: the loop over the other axes, from the last to the first, counts
-- the later axes by l % stride and the earlier ones by l / stride. Assumes nothing.
use mathlib.Core.Path.{◌≡◌, refl, sym, ap, ◌∙◌}
use mathlib.Core.List.{List, [], ◌∷◌}
use Prim.Native.Nat.{ℕ, zero, suc, ◌+◌, ◌*◌, ◌/◌, ◌%◌, ◌-◌, ◌≤◌, ◌<◌}
use native.Mathlib.Nat.{mod-lt, mod-one, mod-eq_of_lt, div-one, div-add-mod', div-div-eq-div-mul, div-lt_iff_lt-mul, mul_comm, mul-le-mul_right, not-suc-le-zero, le_of_suc-le-suc}
use native.Mathlib.Numerals.{add-one}
use native.Mathlib.Omega.{arith}
use lib.ListN.{length, take, drop}
use lib.Seq.{drop-length, drop-cons, slice_empty}
use borrow.Author.Tests.{eq-eqb, ne_eqb}
use Rattle.shape.specs.Shape.{product, points, NotEmpty, stride, lines, first, first_cell}
use Rattle.shape.specs.Places.{base_index_from, line_base_index}
use Rattle.shape.proofs.Lengths.{product-cons}
use Rattle.shape.proofs.Radix.{stride-pos, cut, rem, product-pos, take-not-empty, drop-not-empty}

-- ---- the next digit: n values, of weight p

module _ (l n p : ℕ) (hn : 0 < n) (hp : 0 < p) where
  next_low : l % p + l / p % n * p ≡ l % (n * p)
  next_low =
      let e₁ : l / p * p + l % p ≡ l = div-add-mod' l p in
      let e₂ : (l / p / n * n + l / p % n) * p ≡ l / p * p = ap (λ (x : ℕ). x * p) (div-add-mod' (l / p) n) in
      let whole : l ≡ l / p / n * (n * p) + (l % p + l / p % n * p) = omega arith in
      let low : l % p + l / p % n * p < n * p = omega (arith, mod-lt l hp, mul-le-mul_right p (mod-lt (l / p) hn)) in
      sym (ap (λ (x : ℕ). x % (n * p)) whole ∙ rem (l / p / n) low)

  next-high : l / p / n ≡ l / (n * p)
  next-high = div-div-eq-div-mul l p n ∙ ap (λ (x : ℕ). l / x) (mul_comm p n)

-- the stride of an axis before axis a: the axes between them, and axis a's own row
stride-before : (dims : List ℕ) (d a : ℕ) → d < a → a < length dims → stride dims d ≡ product (drop (suc d) (take a dims)) * (points dims a * stride dims a)
stride-before [] d a h k = absurd (not-suc-le-zero k)
stride-before (n ∷ ns) d zero h k = absurd (not-suc-le-zero h)
stride-before (n ∷ ns) zero (suc a) h k = cut ns a (le_of_suc-le-suc k)
stride-before (n ∷ ns) (suc d) (suc a) h k = stride-before ns d a (le_of_suc-le-suc h) (le_of_suc-le-suc k)

-- the cells that the axes from i on have
pub from-axis : (dims : List ℕ) (i : ℕ) → i < length dims → product (drop i dims) ≡ points dims i * stride dims i
unfolding product
from-axis dims i h = ap product (drop-cons dims i 0 h)

module _ (dims : List ℕ) (ne : NotEmpty dims) (a l : ℕ) (ha : a < length dims) where
  -- down over the axes after a: the digits of l below stride a are in base
  later : (k : ℕ) → suc a + k ≤ length dims
      → base_index_from dims a (suc a + k) (l / product (drop (suc a + k) dims)) (l % product (drop (suc a + k) dims))
      ≡ base_index_from dims a (suc a) (l / stride dims a) (l % stride dims a)
  unfolding base_index_from
  later zero h = rw (let e : suc a + 0 ≡ suc a = omega arith in e)
  later (suc k) h = rw (let e : suc a + suc k ≡ suc (suc a + k) = omega arith in e) (step ∙ later k (omega arith))
    where
      d : ℕ
      d = suc a + k

      step : base_index_from dims a (suc d) (l / stride dims d) (l % stride dims d) ≡ base_index_from dims a d (l / product (drop d dims)) (l % product (drop d dims))
      step =
          let hn : 0 < points dims d = ne d (omega arith) in
          let hp : 0 < stride dims d = stride-pos dims ne d in
          rw (ne_eqb d a (λ q. omega arith), from-axis dims d (omega arith), next_low l (points dims d) (stride dims d) hn hp, next-high l (points dims d) (stride dims d) hn hp)

  -- down over the axes before a: the digits of l / stride a are in base, each in its place above axis a's row
  earlier : (d : ℕ) → d ≤ a → (q r : ℕ)
      → base_index_from dims a d (q / product (drop d (take a dims))) (r + q % product (drop d (take a dims)) * (points dims a * stride dims a))
      ≡ r + q % product (take a dims) * (points dims a * stride dims a)
  unfolding base_index_from
  earlier zero h q r = refl
  earlier (suc d) h q r =
      let n = points dims d in
      let p = product (drop (suc d) (take a dims)) in
      let row = points dims a * stride dims a in
      let hn : 0 < n = ne d (omega arith) in
      let hp : 0 < p = product-pos _ (drop-not-empty (take a dims) (suc d) (take-not-empty dims a ne)) in
      let more : product (drop d (take a dims)) ≡ n * p = product-cons dims a d (omega arith) (omega arith) ∙ rw add-one in
      let sum : r + q % p * row + q / p % n * (p * row) ≡ r + q % (n * p) * row = rw (← next_low q n p hn hp) (omega arith) in
      rw (ne_eqb d a (λ w. omega arith), stride-before dims d a (omega arith) ha, sum, next-high q n p hn hp) (rw more at (earlier d (omega arith) q r))

  -- nothing is counted yet
  start : base_index_from dims a (length dims) (l / product (drop (length dims) dims)) (l % product (drop (length dims) dims)) ≡ base_index_from dims a (length dims) l 0
  unfolding product
  start = rw (drop-length dims, div-one l, mod-one l)

  start-earlier : (q r : ℕ) → base_index_from dims a a (q / product (drop a (take a dims))) (r + q % product (drop a (take a dims)) * (points dims a * stride dims a)) ≡ base_index_from dims a a q r
  unfolding product
  start-earlier q r =
      let none : r + 0 * (points dims a * stride dims a) ≡ r = omega arith in
      rw (slice_empty a dims, div-one q, mod-one q, none)

  -- axis a itself is left out
  pass : (q r : ℕ) → base_index_from dims a (suc a) q r ≡ base_index_from dims a a q r
  unfolding base_index_from
  pass q r = rw (eq-eqb a a refl)

  pub first-base-index : l < lines dims a → first dims a l ≡ line_base_index dims a l
  unfolding first_cell line_base_index
  first-base-index hl =
      let s = stride dims a in
      let all : suc a + (length dims - suc a) ≡ length dims = omega arith in
      let down = rw all at (later (length dims - suc a) (omega arith)) in
      let hq : l / s < product (take a dims) = (div-lt_iff_lt-mul (stride-pos dims ne a)).1 hl in
      let top : l % s + l / s % product (take a dims) * (points dims a * s) ≡ l / s * (points dims a * s) + l % s = rw (mod-eq_of_lt hq) (omega arith) in
      sym (sym start ∙ down ∙ pass (l / s) (l % s) ∙ sym (start-earlier (l / s) (l % s)) ∙ earlier a (omega arith) (l / s) (l % s) ∙ top)
