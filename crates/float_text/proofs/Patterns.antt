-- Floats by their bits: the tests that keep NaN away. Assumes nothing.
use mathlib.Core.Path.{◌≡◌, refl, sym, subst, ◌∙◌}
use mathlib.Core.Bool.{Bool, true, false, not}
use Prim.Native.Nat.{ℕ, ◌<◌, ◌≤◌, ◌%◌}
use lib.Dec.{T}
use lib.Ieee.{Float, nan, inf, fin, is_nan, ne, eq, of_bits, nan_bits, binary64}
use lib.Ieee.Bits.{nan_bits_is, nan_bits_above}
use lib.Ieee.Compare.{differs_from_itself}
use borrow.Author.Tests.{lt-ltb, le-ltb}

pub is-nan : (x : Float) → ne x x ≡ true → x ≡ nan
is-nan x e = differs_from_itself x (subst T (sym e) tt)

pub no_nan : (x : Float) → ne x x ≡ false → T (not (is_nan x))
unfolding is_nan ne eq
no_nan nan e = subst T e tt
no_nan (inf s) e = tt
no_nan (fin s m d) e = tt

pub nan-of : (x : Float) → is_nan x ≡ true → x ≡ nan
unfolding is_nan
nan-of nan e = refl
nan-of (inf s) e = absurd (subst T (sym e) tt)
nan-of (fin s m d) e = absurd (subst T (sym e) tt)

pub nan_pattern : (n : ℕ) → 0x7ff0000000000000 < n % 0x8000000000000000 → of_bits binary64 n ≡ nan
nan_pattern n l = nan-of (of_bits binary64 n) (sym (nan_bits_is binary64 n) ∙ nan_bits_above binary64 n ∙ lt-ltb _ _ l)

pub plain-pattern : (n : ℕ) → n % 0x8000000000000000 ≤ 0x7ff0000000000000 → T (not (nan_bits binary64 n))
plain-pattern n l = subst (λ (b : Bool). T (not b)) (sym (nan_bits_above binary64 n ∙ le-ltb _ _ l)) tt
