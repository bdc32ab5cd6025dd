-- The code's record, as the definitions see it: the only definition here that is tied to a width. Assumes nothing.
use Rattle.rectilinear_blocks.specs.Ghosts.{ghosts}
use Rattle.rectilinear_blocks.specs.Map.{RectilinearMap, map_from}
use Rattle.rectilinear_blocks.specs.declared.grid.Grid.{Grid}

-- the map that a record stands for
abbrev pub map_of : Grid → RectilinearMap
map_of g = map_from g.count g.dims (ghosts g.low) (ghosts g.high) g.linear
