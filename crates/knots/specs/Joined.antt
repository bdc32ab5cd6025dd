-- The joined grid of a rectilinear map: the knots of each axis, axis after axis, in one list. Assumes nothing.
--     dims     the lengths of the axes, axis 0 first
use Rattle.std.specs.Prelude.{Bool, true, ◌&&◌, List, [], ◌∷◌, ℕ, zero, suc, ◌+◌, take, drop, Float}
use Rattle.shape.specs.Shape.{points}
use Rattle.knots.specs.Knots.{rises}

-- the knots of all axes together
unfoldable pub total : List ℕ → ℕ
total [] = 0
total (n ∷ ns) = n + total ns

-- the knots of axis a: as many as it has points, after those of the axes before it
unfoldable pub knots_of : List Float → List ℕ → ℕ → List Float
knots_of grid dims a = take (points dims a) (drop (total (take a dims)) grid)

-- do the knots of each of the first a axes rise?
unfoldable pub all_rise : List Float → List ℕ → ℕ → Bool
all_rise grid dims zero = true
all_rise grid dims (suc a) = all_rise grid dims a && rises (knots_of grid dims a)
