use Rattle.rectilinear_blocks.specs.Ghosts.{ghosts}
use Rattle.rectilinear_map.proofs.ends.no_ghosts.Goals as goal

pub returns : goal.returns
unfolding ghosts
returns c =
    rw (c.no_ghost-4.ensures, c.no_ghost-3.ensures, c.no_ghost-2.ensures, c.no_ghost.ensures)
