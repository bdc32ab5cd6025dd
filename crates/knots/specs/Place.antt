-- The place of a query on a rectilinear axis of n knots, by the count c of the knots below it. Assumes nothing.
use Rattle.std.specs.Prelude.{cond, List, ℕ, ◌-◌, eqb, length, Float}
use Rattle.multibspline.specs.declared.saturation.Saturation.{Saturation}
use Rattle.multibspline.specs.declared.saturation.Saturation.TheVariants.{None, InsideLow, OutsideLow, InsideHigh, OutsideHigh}
use Rattle.knots.specs.Knots.{count_below}
use Rattle.knots.specs.declared.place.Loc.{Loc}

-- the span whose basis functions count, and the origin: the first of the four coefficients that count
abbrev pub loc : Saturation → ℕ → ℕ → Loc
loc sat span origin = record { sat = sat; span = span; origin = origin }

-- no knot below: before the first span or at its first knot; one: in the first span; all but one: in the last span; all:
-- past it
unfoldable pub loc_of : ℕ → ℕ → Loc
loc_of n c =
    cond (eqb c 0) (loc OutsideLow 0 0)
    (cond (eqb c 1) (loc InsideLow 0 0)
    (cond (eqb c (n - 1)) (loc InsideHigh (n - 2) (n - 4))
    (cond (eqb c n) (loc OutsideHigh (n - 2) (n - 4))
    (loc None (c - 1) (c - 2)))))

unfoldable pub get_loc : List Float → Float → Loc
get_loc ks x = loc_of (length ks) (count_below ks x)
