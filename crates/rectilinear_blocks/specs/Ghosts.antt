-- The ghost numbers of one end of each axis. Assumes nothing.
use Rattle.std.specs.Prelude.{List, [], ◌∷◌, Float}
use Rattle.rectilinear_weights.specs.declared.ghosts.Ghost.{Ghost}
use Rattle.rectilinear_weights.specs.Records.{ghost_numbers}

unfoldable pub ghosts : List Ghost → List (List Float)
ghosts [] = []
ghosts (g ∷ gs) = ghost_numbers g ∷ ghosts gs
