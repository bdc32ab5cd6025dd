-- What the comparisons of a quotient with 0, 2^63 and -2^63 say of its floor. Over every format. Assumes nothing.
use Rattle.std.proofs.Common.{◌≡◌, ℕ, zero, suc, ◌+◌, ◌-◌, ◌*◌, ◌/◌, ◌%◌, ◌^◌, ◌<◌, ◌≤◌, min, Bool, true, false, cond, ◌&&◌, ◌||◌, T, eqb, ltb, leb, ℤ, pos, negsuc, neg_ℤ, nat_abs, sym, refl, ◌∙◌, lt_of_lt_of_le, div-lt_iff_lt-mul, le-div_iff_mul-le, zero-mul, arith, lit<, lit≤, ltb→lt, lt→ltb, ltb-false, ltb-true, le-ltb, lt-ltb, eqb-true}
use lib.IntN.{pred_ℤ}
use lib.Ieee.{Float, nan, inf, fin, Format, binary32, binary64, prec, up, down, lt, le, eq, to_unsigned, fits}
use lib.Ieee.Fits.{down_pos, and_l, and_r}
use Rattle.shape.proofs.Lengths.{or-false}
use Rattle.shape.proofs.Below.{and_both}
use Rattle.multibspline.specs.Numbers.{f0, f-1}
use Rattle.multibspline.specs.declared.saturation.Saturation.TheVariants.{OutsideLow}
use Rattle.regular_weights.specs.Place.{loc_of_cell, loc_of}
use Rattle.regular_weights.specs.Place.{at, unrepresentable}

abbrev 2^63 : Float
2^63 = fin false 1 (pos 63)

abbrev -2^63 : Float
-2^63 = fin true 1 (pos 63)

abbrev 2^64 : Float
2^64 = fin false 1 (pos 64)

t≠f : true ≡ false → ⊥
t≠f p = let z : ◌≡◌ {A = ℕ} 0 1 = cc in omega arith

f≠t : false ≡ true → ⊥
f≠t p = t≠f (sym p)

-- ---- in whole numbers: a is the significand times the power of two above the line, b the one below it

-- of the values with the sign, only zero is not below zero
is_zero : (a b : ℕ) → (eqb (0 * b) (a * 1) && (false || eqb (0 * b) 0)) ≡ true → a ≡ 0
is_zero a b p = omega (arith, eqb-true (0 * b) (a * 1) (and_both (eqb (0 * b) (a * 1)) _ p).0)

not-zero : (a b : ℕ) → (eqb (0 * b) (a * 1) && (false || eqb (0 * b) 0)) ≡ false → 0 < a
not-zero zero b p = absurd (t≠f (sym (rw (zero-mul b)) ∙ p))
not-zero (suc a) b p = omega arith

-- no value without the sign is below zero
not_negative : (a b : ℕ) → (ltb (0 * b) (a * 1) || (eqb (0 * b) (a * 1) && true)) ≡ false → ⊥
not_negative zero b p = t≠f (sym (rw (zero-mul b)) ∙ p)
not_negative (suc a) b p = let h = ltb-false (0 * b) (suc a * 1) (or-false (ltb (0 * b) (suc a * 1)) _ p).0 in omega arith

ceil-zero : (a b : ℕ) → 0 < b → a ≡ 0 → (a + (b - 1)) / b ≡ 0
ceil-zero a b B h = let r : (a + (b - 1)) / b < 1 = (div-lt_iff_lt-mul B).1 (omega arith) in omega arith

ceil-pos : (a b : ℕ) → 0 < b → 0 < a → 0 < (a + (b - 1)) / b
ceil-pos a b B h = (le-div_iff_mul-le B).1 (omega arith)

in-range : (n a b : ℕ) → 0 < b → ltb (a * 1) (2 ^ 63 * b) ≡ true
    → cond (ltb (a / b) (2 ^ 63)) (loc_of_cell n (pred_ℤ (pos (a / b)))) unrepresentable ≡ loc_of_cell n (pred_ℤ (pos (min (a / b) (2 ^ 64 - 1))))
in-range n a b B r =
    let g = ltb-true (a * 1) (2 ^ 63 * b) r in
    let h : a / b < 2 ^ 63 = (div-lt_iff_lt-mul B).1 (omega arith) in
    let u : min (a / b) (2 ^ 64 - 1) ≡ a / b = omega arith in
    rw (lt-ltb (a / b) (2 ^ 63) h, u)

over : (n a b : ℕ) → 0 < b → ltb (a * 1) (2 ^ 63 * b) ≡ false → cond (ltb (a / b) (2 ^ 63)) (loc_of_cell n (pred_ℤ (pos (a / b)))) unrepresentable ≡ unrepresentable
over n a b B r =
    let g = ltb-false (a * 1) (2 ^ 63 * b) r in
    let h : 2 ^ 63 ≤ a / b = (le-div_iff_mul-le B).1 (omega arith) in
    rw (le-ltb (a / b) (2 ^ 63) h)

low-cell : (n k : ℕ) → 0 < k → k < 2 ^ 63 → cond (ltb (nat_abs (neg_ℤ (pos k))) (2 ^ 63)) (loc_of_cell n (pred_ℤ (neg_ℤ (pos k)))) unrepresentable ≡ at OutsideLow 0
low-cell n zero p h = absurd (let q : ⊥ = omega arith in q)
low-cell n (suc k) p h = rw (lt-ltb (suc k) (2 ^ 63) h)

under-cell : (n k : ℕ) → 2 ^ 63 ≤ k → cond (ltb (nat_abs (neg_ℤ (pos k))) (2 ^ 63)) (loc_of_cell n (pred_ℤ (neg_ℤ (pos k)))) unrepresentable ≡ unrepresentable
under-cell n zero h = absurd (let q : ⊥ = omega arith in q)
under-cell n (suc k) h = rw (le-ltb (suc k) (2 ^ 63) h)

-- a significand is below 2^53 in either format
small : (f : Format) (s : Bool) (m : ℕ) (e : ℤ) → T (fits f (fin s m e)) → m < 2 ^ 53
unfolding fits
small f s zero e h = lit< tt
small f s (suc m) e h =
    let odd = eqb (suc m % 2) 1 in
    let short = ltb (suc m) (2 ^ prec f) in
    let fine = leb (down e) _ in
    lt_of_lt_of_le (ltb→lt (suc m) (2 ^ prec f) (and_r odd short (and_l (odd && short) fine (and_l (odd && short && fine) _ h)))) (at_most f)
  where
    at_most : (g : Format) → 2 ^ prec g ≤ 2 ^ 53
    at_most binary32 = lit≤ tt
    at_most binary64 = lit≤ tt

-- so no value between -2^63 and -2^63 + 1 has a floor of -2^63
ceil-small : (f : Format) (s : Bool) (m : ℕ) (e : ℤ) → T (fits f (fin s m e)) → m * up e * 1 < 2 ^ 63 * down e → (m * up e + (down e - 1)) / down e < 2 ^ 63
ceil-small f s m (pos k) h g = (div-lt_iff_lt-mul (lit< tt)).1 (omega arith)
ceil-small f s m (negsuc k) h g = let b = down_pos (negsuc k) in (div-lt_iff_lt-mul b).1 (omega (arith, small f s m (negsuc k) h))

-- ---- the same of a quotient

not-below : (m : ℕ) (e : ℤ) → le f0 (fin true m e) ≡ true → m * up e ≡ 0
unfolding le lt eq
not-below m e p = is_zero (m * up e) (down e) p

-- the bounds that the cast asks for
pub above_minus_one : (q : Float) → le f0 q ≡ true → T (lt f-1 q)
unfolding le lt eq
above_minus_one nan p = absurd (f≠t p)
above_minus_one (inf true) p = absurd (f≠t p)
above_minus_one (inf false) p = tt
above_minus_one (fin false m e) p = lt→ltb 0 (1 * down e + m * up e * 1) (omega (arith, down_pos e))
above_minus_one (fin true m e) p = lt→ltb (m * up e * 1) (1 * down e) (omega (arith, down_pos e, not-below m e p))

pub below-twice : (q : Float) → lt q 2^63 ≡ true → T (lt q 2^64)
unfolding lt
below-twice nan r = absurd (f≠t r)
below-twice (inf true) r = tt
below-twice (inf false) r = absurd (f≠t r)
below-twice (fin false m e) r = lt→ltb (m * up e * 1) (2 ^ 64 * down e) (omega (arith, ltb-true (m * up e * 1) (2 ^ 63 * down e) r))
below-twice (fin true m e) r = lt→ltb 0 (m * up e * 1 + 2 ^ 64 * down e) (omega (arith, down_pos e))

pub loc_in : (n : ℕ) (q : Float) → le f0 q ≡ true → lt q 2^63 ≡ true → loc_of n q ≡ loc_of_cell n (pred_ℤ (pos (to_unsigned 64 q)))
unfolding le lt eq loc_of to_unsigned
loc_in n nan p r = absurd (f≠t p)
loc_in n (inf true) p r = absurd (f≠t p)
loc_in n (inf false) p r = absurd (f≠t r)
loc_in n (fin false m e) p r = in-range n (m * up e) (down e) (down_pos e) r
loc_in n (fin true m e) p r = rw (ceil-zero (m * up e) (down e) (down_pos e) (not-below m e p))

pub loc-over : (n : ℕ) (q : Float) → le f0 q ≡ true → lt q 2^63 ≡ false → loc_of n q ≡ unrepresentable
unfolding le lt eq loc_of
loc-over n nan p r = refl
loc-over n (inf s) p r = refl
loc-over n (fin false m e) p r = over n (m * up e) (down e) (down_pos e) r
loc-over n (fin true m e) p r = absurd (let q : ⊥ = omega (arith, down_pos e, ltb-false 0 (m * up e * 1 + 2 ^ 63 * down e) r) in q)

pub loc-low : (f : Format) (n : ℕ) (q : Float) → T (fits f q) → le f0 q ≡ false → lt -2^63 q ≡ true → loc_of n q ≡ at OutsideLow 0
unfolding le lt eq loc_of
loc-low f n nan h p r = absurd (f≠t r)
loc-low f n (inf true) h p r = absurd (f≠t r)
loc-low f n (inf false) h p r = absurd (t≠f p)
loc-low f n (fin false m e) h p r = absurd (not_negative (m * up e) (down e) p)
loc-low f n (fin true m e) h p r =
    low-cell n ((m * up e + (down e - 1)) / down e) (ceil-pos (m * up e) (down e) (down_pos e) (not-zero (m * up e) (down e) p))
    (ceil-small f true m e h (ltb-true (m * up e * 1) (2 ^ 63 * down e) r))

pub loc-under : (n : ℕ) (q : Float) → le f0 q ≡ false → lt -2^63 q ≡ false → loc_of n q ≡ unrepresentable
unfolding le lt eq loc_of
loc-under n nan p r = refl
loc-under n (inf s) p r = refl
loc-under n (fin false m e) p r = absurd (not_negative (m * up e) (down e) p)
loc-under n (fin true m e) p r =
    under-cell n ((m * up e + (down e - 1)) / down e)
    ((le-div_iff_mul-le (down_pos e)).1 (omega (arith, ltb-false (m * up e * 1) (2 ^ 63 * down e) r)))
