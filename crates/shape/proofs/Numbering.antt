-- The numbering says what the paper says: a cell counts its places, the last axis fastest; the line of axis a through a cell
-- counts the places on the other axes, the last of them fastest; so two cells share a line of axis a where they differ at most
-- on axis a. And the checked points i and k. Assumes nothing.
use mathlib.Core.Path.{◌≡◌, refl, sym, ap, ap₂, ◌∙◌}
use mathlib.Core.Logic.{◌↔◌}
use mathlib.Core.List.{List, [], ◌∷◌}
use Prim.Native.Nat.{ℕ, zero, suc, ◌+◌, ◌*◌, ◌/◌, ◌%◌, ◌<◌}
use native.Mathlib.Nat.{mod-lt, div-add-mod', mul-pos, div-lt_iff_lt-mul, mul-le-mul_right, mul-add-div_right, mul-add-mod_self_right, not-suc-le-zero, le_of_suc-le-suc, div-eq_of_lt, mod-eq_of_lt}
use native.Mathlib.Omega.{arith}
use lib.ListN.{length, get_or, take}
use Rattle.shape.specs.Shape.{product, size, points, NotEmpty, stride, lines, line_at, place_at, line_of, place_of}
use Rattle.shape.specs.Places.{places, count, without}
use Rattle.shape.proofs.Radix.{product-pos, stride-pos, cut, quot, rem}

later : (n : ℕ) (ns : List ℕ) → NotEmpty (n ∷ ns) → NotEmpty ns
later n ns h a b = h (suc a) (omega arith)

-- a place is the entry of its axis
pub places-at : (dims : List ℕ) (a cell : ℕ) → a < length dims → get_or (places dims cell) a 0 ≡ place_at dims a cell
unfolding places place_of
places-at [] a cell h = absurd (not-suc-le-zero h)
places-at (n ∷ ns) zero cell h = refl
places-at (n ∷ ns) (suc a) cell h = places-at ns a cell (le_of_suc-le-suc h)

-- ---- a multiple of the size, added, changes no place, and adds as many lines

places-add : (ns : List ℕ) → NotEmpty ns → (q r : ℕ) → places ns (q * product ns + r) ≡ places ns r
unfolding places product
places-add [] ne q r = refl
places-add (n ∷ ns) ne q r =
    let pos : 0 < product ns = product-pos ns (later n ns ne) in
    let e : q * (n * product ns) + r ≡ q * n * product ns + r = omega arith in
    let d : (q * n * product ns + r) / product ns % n ≡ r / product ns % n =
    rw (mul-add-div_right pos (q * n) r) (mul-add-mod_self_right q n (r / product ns)) in
    let t : places ns (q * n * product ns + r) ≡ places ns r = places-add ns (later n ns ne) (q * n) r in
    rw (e, d, t)

line-add : (ns : List ℕ) → NotEmpty ns → (a : ℕ) → a < length ns → (q r : ℕ) → line_at ns a (q * product ns + r) ≡ q * lines ns a + line_at ns a r
unfolding line_of
line-add ns ne a ha q r =
    let s : ℕ = stride ns a in
    let n : ℕ = points ns a in
    let u : ℕ = product (take a ns) in
    let pos : 0 < n * s = mul-pos (ne a ha) (stride-pos ns ne a) in
    let e₁ : q * product ns + r ≡ q * u * (n * s) + r = rw (cut ns a ha) (omega arith) in
    let e₂ : q * product ns + r ≡ q * u * n * s + r = rw (cut ns a ha) (omega arith) in
    let d : (q * product ns + r) / (n * s) ≡ q * u + r / (n * s) = ap (λ (x : ℕ). x / (n * s)) e₁ ∙ mul-add-div_right pos (q * u) r in
    let m : (q * product ns + r) % s ≡ r % s = ap (λ (x : ℕ). x % s) e₂ ∙ mul-add-mod_self_right (q * u * n) s r in
    rw (d, m) (omega arith)

low-places : (ns : List ℕ) → NotEmpty ns → (c : ℕ) → places ns c ≡ places ns (c % product ns)
low-places ns ne c = ap (places ns) (sym (div-add-mod' c (product ns))) ∙ places-add ns ne (c / product ns) (c % product ns)

-- ---- a cell counts its places

pub cell-counts : (dims : List ℕ) → NotEmpty dims → (c : ℕ) → c < size dims → count dims (places dims c) ≡ c
unfolding count places product
cell-counts [] ne c hc = omega arith
cell-counts (n ∷ ns) ne c hc =
    let ne' : NotEmpty ns = later n ns ne in
    let pos : 0 < product ns = product-pos ns ne' in
    let q : c / product ns < n = (div-lt_iff_lt-mul pos).1 hc in
    let ih : count ns (places ns c) ≡ c % product ns =
    ap (count ns) (low-places ns ne' c) ∙ cell-counts ns ne' (c % product ns) (mod-lt c pos) in
    rw (mod-eq_of_lt q, ih) (div-add-mod' c (product ns))

-- ---- a line counts the places on the other axes

lines-without : (dims : List ℕ) (a : ℕ) → a < length dims → product (without a dims) ≡ lines dims a
unfolding without product
lines-without [] a h = absurd (not-suc-le-zero h)
lines-without (n ∷ ns) zero h = omega arith
lines-without (n ∷ ns) (suc a) h = rw (lines-without ns a (le_of_suc-le-suc h)) (omega arith)

pub line-counts : (dims : List ℕ) → NotEmpty dims → (a : ℕ) → a < length dims → (c : ℕ) → c < size dims
    → line_at dims a c ≡ count (without a dims) (without a (places dims c))
unfolding count places product without line_of
line-counts [] ne a ha c hc = absurd (not-suc-le-zero ha)
line-counts (n ∷ ns) ne zero ha c hc =
    let ne' : NotEmpty ns = later n ns ne in
    let pos : 0 < product ns = product-pos ns ne' in
    let top : c / (n * product ns) ≡ 0 = div-eq_of_lt hc in
    let low : count ns (places ns c) ≡ c % product ns =
    ap (count ns) (low-places ns ne' c) ∙ cell-counts ns ne' (c % product ns) (mod-lt c pos) in
    rw (top, low) (omega arith)
line-counts (n ∷ ns) ne (suc a) ha c hc =
    let ne' : NotEmpty ns = later n ns ne in
    let ha' : a < length ns = le_of_suc-le-suc ha in
    let pos : 0 < product ns = product-pos ns ne' in
    let q : c / product ns < n = (div-lt_iff_lt-mul pos).1 hc in
    let ih : line_at ns a (c % product ns) ≡ count (without a ns) (without a (places ns (c % product ns))) =
    line-counts ns ne' a ha' (c % product ns) (mod-lt c pos) in
    let split : line_at ns a c ≡ c / product ns * lines ns a + line_at ns a (c % product ns) =
    ap (line_at ns a) (sym (div-add-mod' c (product ns))) ∙ line-add ns ne' a ha' (c / product ns) (c % product ns) in
    split
    ∙ ap₂ (λ (x y : ℕ). x * lines ns a + y) (sym (mod-eq_of_lt q)) (ih ∙ ap (λ (ps : List ℕ). count (without a ns) (without a ps)) (sym (low-places ns ne' c)))
    ∙ ap (λ (x : ℕ). c / product ns % n * x + count (without a ns) (without a (places ns c))) (sym (lines-without ns a ha'))

-- ---- two cells share a line of axis a where they differ at most on axis a

data Digits : List ℕ → List ℕ → Type 0 where
  none : Digits [] []
  one : {n p : ℕ} {ns ps : List ℕ} → p < n → Digits ns ps → Digits (n ∷ ns) (p ∷ ps)

count-lt : {ns ps : List ℕ} → Digits ns ps → count ns ps < product ns
unfolding count product
count-lt none = omega arith
count-lt (one {n = n} {p = p} {ns = ns} h d) = omega (arith, count-lt d, mul-le-mul_right (product ns) h)

digits-places : (dims : List ℕ) → NotEmpty dims → (c : ℕ) → Digits dims (places dims c)
unfolding places
digits-places [] ne c = none
digits-places (n ∷ ns) ne c = one (mod-lt (c / product ns) (ne 0 (omega arith))) (digits-places ns (later n ns ne) c)

digits-without : {ns ps : List ℕ} (a : ℕ) → Digits ns ps → Digits (without a ns) (without a ps)
unfolding without
digits-without a none = none
digits-without zero (one h d) = d
digits-without (suc a) (one h d) = one h (digits-without a d)

count-inj : {ns ps qs : List ℕ} → Digits ns ps → Digits ns qs → count ns ps ≡ count ns qs → ps ≡ qs
unfolding count
count-inj none none e = refl
count-inj (one {p = p} {ns = ns} {ps = ps} h d) (one {p = q} {ps = qs} k f) e =
    let e₁ : p ≡ q = sym (quot p (count-lt d)) ∙ ap (λ (x : ℕ). x / product ns) e ∙ quot q (count-lt f) in
    let e₂ : count ns ps ≡ count ns qs = sym (rem p (count-lt d)) ∙ ap (λ (x : ℕ). x % product ns) e ∙ rem q (count-lt f) in
    let e₃ : ps ≡ qs = count-inj d f e₂ in
    cc

pub same_line : (dims : List ℕ) → NotEmpty dims → (a : ℕ) → a < length dims → (c d : ℕ) → c < size dims → d < size dims
    → (line_at dims a c ≡ line_at dims a d) ↔ (without a (places dims c) ≡ without a (places dims d))
same_line dims ne a ha c d hc hd = (
  (λ e. count-inj (digits-without a (digits-places dims ne c)) (digits-without a (digits-places dims ne d))
      (sym (line-counts dims ne a ha c hc) ∙ e ∙ line-counts dims ne a ha d hd)),
  (λ e. line-counts dims ne a ha c hc ∙ ap (count (without a dims)) e ∙ sym (line-counts dims ne a ha d hd)),
)
