-- The place of a query on a regular axis of n points: its cell is floor((x - start) / step) - 1. Assumes nothing.
use Rattle.std.specs.Prelude.{Option, Some, None, ℕ, zero, suc, ◌+◌, ◌-◌, ◌*◌, ◌/◌, ◌^◌, min, Bool, true, false, cond, ℤ, pos, negsuc, neg_ℤ, ◌==◌, nat_lt, unsigned_abs, Float}
use Rattle.std.proofs.Math.IntN.{pred_ℤ}
use Rattle.std.specs.Float.{nan, inf, fin, Format}
use Rattle.std.specs.Float.Ieee.{up, down, add, sub, mul, div, of_int}
use Rattle.multibspline.specs.declared.saturation.Saturation.{Saturation}
use Rattle.multibspline.specs.declared.saturation.Saturation.TheVariants as Place
use Rattle.regular_weights.specs.declared.place.Loc.{Loc}

-- a place with the first of the four coefficients that count; or none, where the cell cannot be represented
abbrev pub at : Saturation → ℕ → Option Loc
at sat origin = Some (record { sat = sat; origin = origin })

abbrev pub unrepresentable : Option Loc
unrepresentable = None

-- the floor of a / b, or of -a / b where the sign is set
abbrev pub floor_of : Bool → ℕ → ℕ → ℤ
floor_of false a b = pos (a / b)
floor_of true a b = neg_ℤ (pos ((a + (b - 1)) / b))

-- a cell below -1 is outside on the low side, -1 in the first span, n - 3 in the last span, and above that outside on the
-- high side
abbrev pub saturation_of : ℕ → ℤ → Saturation
saturation_of n (negsuc zero) = Place.InsideLow
saturation_of n (negsuc (suc k)) = Place.OutsideLow
saturation_of n (pos cell) = cond (nat_lt cell (n - 3)) Place.None (cond (cell == n - 3) Place.InsideHigh Place.OutsideHigh)

-- the origin is the cell held to 0 .. n - 4: the first of the four coefficients that count
abbrev pub origin_of : ℕ → ℤ → ℕ
origin_of n (negsuc k) = 0
origin_of n (pos cell) = min cell (n - 4)

abbrev pub loc_of_cell : ℕ → ℤ → Option Loc
loc_of_cell n cell = at (saturation_of n cell) (origin_of n cell)

-- By the quotient q, which is (-1)^s × m × up e / down e where it is finite. There is none where q is NaN or infinite, its floor
-- is outside the signed 64-bit range, or it is -2^63, from which 1 cannot be taken
unfoldable pub loc_of : ℕ → Float → Option Loc
loc_of n nan = unrepresentable
loc_of n (inf s) = unrepresentable
loc_of n (fin s m e) =
    let floor = floor_of s (m * up e) (down e) in
    cond (nat_lt (unsigned_abs floor) (2 ^ 63)) (loc_of_cell n (pred_ℤ floor)) unrepresentable

unfoldable pub get_loc : Format → ℕ → Float → Float → Float → Option Loc
get_loc f n start step x = loc_of n (div f (sub f x start) step)

-- how far x lies past the point after the origin, in steps
unfoldable pub past_origin : Format → Float → Float → Float → ℕ → Float
past_origin f start step x origin = div f (sub f x (add f (mul f step (of_int f (pos (origin + 1)))) start)) step
