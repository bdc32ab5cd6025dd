-- The code's records, as the definitions see them: the only definitions here that are tied to a width. Assumes nothing.
use Rattle.std.specs.Prelude.{List, [], ◌∷◌, Float}
use Rattle.rectilinear_weights.specs.declared.ghosts.Ghost.{Ghost}

-- the three ghost numbers of an end
abbrev pub ghost_numbers : Ghost → List Float
ghost_numbers g = g.p0 ∷ g.p1 ∷ g.p2 ∷ []
