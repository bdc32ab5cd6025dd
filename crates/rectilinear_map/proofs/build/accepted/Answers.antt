use Rattle.rectilinear_map.specs.Map.{made, low_ghosts, high_ghosts}
use Rattle.rectilinear_map.proofs.build.accepted.Goals as goal

pub returns : goal.returns
unfolding made low_ghosts high_ghosts
returns c = rw (c.used_of.ensures 0, c.ghosts_of-2.ensures, c.ghosts_of.ensures)
