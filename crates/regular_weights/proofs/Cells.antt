-- The place and the origin of a cell. Assumes nothing.
use Rattle.std.proofs.Common.{Option, Some, None as nothing, ◌≡◌, ℕ, zero, suc, ◌+◌, ◌-◌, ◌*◌, ◌^◌, ◌<◌, ◌≤◌, min, Bool, true, false, cond, ltb, ℤ, pos, negsuc, nat_abs, sym, refl, arith, le-ltb, lt-ltb, eq-eqb, ne_eqb}
use lib.Arith.{lt_of_le-ne}
use lib.IntN.{pred_ℤ}
use lib.Ieee.{Float, nan, inf, fin, Format, up, down, sub, div}
use Rattle.multibspline.specs.declared.saturation.Saturation.{Saturation}
use Rattle.multibspline.specs.declared.saturation.Saturation.TheVariants.{None, InsideLow, InsideHigh, OutsideHigh}
use Rattle.regular_weights.specs.Place.{floor_of, loc_of_cell, loc_of, get_loc}
use Rattle.regular_weights.specs.declared.place.Loc.{Loc}
use Rattle.regular_weights.specs.Place.{at, unrepresentable}

-- ---- by the floor u of the quotient, where it is not negative

pub first-span : (n u : ℕ) → u ≡ 0 → loc_of_cell n (pred_ℤ (pos u)) ≡ at InsideLow 0
first-span n u h = rw h

pub inner-span : (n u : ℕ) → 4 ≤ n → (u ≡ 0 → ⊥) → u < n - 2 → loc_of_cell n (pred_ℤ (pos u)) ≡ at None (u - 1)
inner-span n zero hn some h = absurd (some refl)
inner-span n (suc u) hn some h =
    let e : suc u - 1 ≡ u = omega arith in
    let g : min u (n - 4) ≡ u = omega arith in
    rw (lt-ltb u (n - 3) (omega arith), g, e)

pub last-span : (n u : ℕ) → 4 ≤ n → u ≡ n - 2 → loc_of_cell n (pred_ℤ (pos u)) ≡ at InsideHigh (n - 4)
last-span n zero hn h = absurd (let q : ⊥ = omega arith in q)
last-span n (suc u) hn h =
    let g : min u (n - 4) ≡ n - 4 = omega arith in
    rw (le-ltb u (n - 3) (omega arith), eq-eqb u (n - 3) (omega arith), g)

pub past-span : (n u : ℕ) → 4 ≤ n → n - 2 ≤ u → (u ≡ n - 2 → ⊥) → loc_of_cell n (pred_ℤ (pos u)) ≡ at OutsideHigh (n - 4)
past-span n zero hn h other = absurd (let q : ⊥ = omega arith in q)
past-span n (suc u) hn h other =
    let k : n - 2 < suc u = lt_of_le-ne h (λ e. other (sym e)) in
    let g : min u (n - 4) ≡ n - 4 = omega arith in
    rw (le-ltb u (n - 3) (omega arith), ne_eqb u (n - 3) (λ e. let q : ⊥ = omega arith in q), g)

-- ---- the four coefficients from the origin on are on the axis

abbrev origin_in : Option Loc → ℕ
origin_in (Some l) = l.origin
origin_in nothing = 0

cell_room : (n : ℕ) (b : Bool) (cell : ℤ) → origin_in (cond b (loc_of_cell n cell) unrepresentable) ≤ n - 4
cell_room n true (pos c) = omega arith
cell_room n true (negsuc k) = omega arith
cell_room n false cell = omega arith

loc-room : (n : ℕ) (q : Float) → origin_in (loc_of n q) ≤ n - 4
unfolding loc_of
loc-room n nan = omega arith
loc-room n (inf s) = omega arith
loc-room n (fin s m e) = let floor = floor_of s (m * up e) (down e) in cell_room n (ltb (nat_abs floor) (2 ^ 63)) (pred_ℤ floor)

pub origin-room : (f : Format) {n : ℕ} (start step x : Float) {sat : Saturation} {origin : ℕ} → 4 ≤ n → get_loc f n start step x ≡ at sat origin → origin + 3 < n
unfolding get_loc
origin-room f {n} start step x hn e =
    let h = rw e at (loc-room n (div f (sub f x start) step)) in
    omega arith
