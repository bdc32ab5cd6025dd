-- The checks of a joined grid, in the words of shape/specs/Checks.antt. Assumes nothing.
--     dims     the lengths of the axes, axis 0 first
use Rattle.std.specs.Prelude.{not, List, [], ◌∷◌, ℕ, length, Float}
use Rattle.shape.specs.Checks.{Check, refuse, length_check}
use Rattle.knots.specs.Joined.{total, all_rise}

-- as many knots as the axes have points together
abbrev pub grid_check : List ℕ → List Float → List Check
grid_check dims grid = length_check (total dims) (length grid)

-- the knots of each axis rise
abbrev pub knots_check : List ℕ → List Float → List Check
knots_check dims grid = refuse 5 (not (all_rise grid dims (length dims))) ∷ []
