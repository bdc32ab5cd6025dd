use Rattle.rectilinear_blocks.specs.Ghosts.{ghosts}
use Rattle.rectilinear_map.proofs.ends.ghosts_of.Goals as goal

pub returns : goal.returns
unfolding ghosts
returns g c = rw (c.ghost_on-4.ensures, c.ghost_on-3.ensures, c.ghost_on-2.ensures, c.ghost_on.ensures)
