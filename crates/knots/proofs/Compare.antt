-- `lt` of floats is transitive, NaNs and infinities included. Assumes nothing.
use mathlib.Core.Path.{◌≡◌, refl}
use mathlib.Core.Bool.{true, false}
use Prim.Native.Nat.{ℕ, ◌+◌, ◌*◌, ◌<◌}
use native.Mathlib.Nat.{lt_of_le_of_lt, lt_trans, le_of_eq, mul_right_comm, mul-pos, mul-lt-mul_of_pos_right, lt_of_mul-lt-mul_right, lt_of_lt_of_le}
use native.Mathlib.Omega.{arith}
use lib.Ieee.{Float, nan, inf, fin, up, down, lt}
use lib.Ieee.Fits.{down_pos}
use lib.Ieee.Positive.{first_pos}
use borrow.Author.Tests.{ltb-true, lt-ltb}

-- three fractions: x / p < y / q < z / r
through : (x y z p q r : ℕ) → 0 < p → 0 < r → x * q < y * p → y * r < z * q → x * r < z * p
through x y z p q r P R h k =
    lt_of_mul-lt-mul_right q
    (lt_of_le_of_lt (le_of_eq (mul_right_comm x r q))
    (lt_trans (mul-lt-mul_of_pos_right h R)
    (lt_of_le_of_lt (le_of_eq (mul_right_comm y p r))
    (lt_of_lt_of_le (mul-lt-mul_of_pos_right k P) (le_of_eq (mul_right_comm z q p))))))

-- of two fractions the larger is above zero, over any denominator p
above_zero : (y z q r p : ℕ) → 0 < p → y * r < z * q → 0 < z * p
above_zero y z q r p P h = mul-pos (first_pos z q (omega arith)) P

first_above : (a b : ℕ) → 0 < a → 0 < a + b
first_above a b p = omega arith

second_above : (a b : ℕ) → 0 < b → 0 < a + b
second_above a b p = omega arith

pub lt-trans-float : (x y z : Float) → lt x y ≡ true → lt y z ≡ true → lt x z ≡ true
unfolding lt
lt-trans-float nan y z h k = h
lt-trans-float (inf s) nan z h k = cc
lt-trans-float (inf true) (inf true) z h k = cc
lt-trans-float (inf false) (inf t) z h k = cc
lt-trans-float (inf true) (inf false) nan h k = k
lt-trans-float (inf true) (inf false) (inf u) h k = cc
lt-trans-float (inf true) (inf false) (fin u l c) h k = refl
lt-trans-float (inf false) (fin t n d) z h k = cc
lt-trans-float (inf true) (fin t n d) nan h k = k
lt-trans-float (inf true) (fin t n d) (inf u) h k = k
lt-trans-float (inf true) (fin t n d) (fin u l c) h k = refl
lt-trans-float (fin s m e) nan z h k = cc
lt-trans-float (fin s m e) (inf true) z h k = cc
lt-trans-float (fin s m e) (inf false) nan h k = k
lt-trans-float (fin s m e) (inf false) (inf u) h k = cc
lt-trans-float (fin s m e) (inf false) (fin u l c) h k = cc
lt-trans-float (fin s m e) (fin t n d) nan h k = k
lt-trans-float (fin s m e) (fin t n d) (inf u) h k = k
lt-trans-float (fin false m e) (fin true n d) (fin u l c) h k = cc
lt-trans-float (fin s m e) (fin false n d) (fin true l c) h k = cc
lt-trans-float (fin false m e) (fin false n d) (fin false l c) h k =
    lt-ltb (m * up e * down c) (l * up c * down e)
    (through (m * up e) (n * up d) (l * up c) (down e) (down d) (down c) (down_pos e) (down_pos c) (ltb-true _ _ h) (ltb-true _ _ k))
lt-trans-float (fin true m e) (fin false n d) (fin false l c) h k =
    lt-ltb 0 (m * up e * down c + l * up c * down e)
    (second_above (m * up e * down c) (l * up c * down e) (above_zero (n * up d) (l * up c) (down d) (down c) (down e) (down_pos e) (ltb-true _ _ k)))
lt-trans-float (fin true m e) (fin true n d) (fin false l c) h k =
    lt-ltb 0 (m * up e * down c + l * up c * down e)
    (first_above (m * up e * down c) (l * up c * down e) (above_zero (n * up d) (m * up e) (down d) (down e) (down c) (down_pos c) (ltb-true _ _ h)))
lt-trans-float (fin true m e) (fin true n d) (fin true l c) h k =
    lt-ltb (l * up c * down e) (m * up e * down c)
    (through (l * up c) (n * up d) (m * up e) (down c) (down d) (down e) (down_pos c) (down_pos e) (ltb-true _ _ k) (ltb-true _ _ h))
