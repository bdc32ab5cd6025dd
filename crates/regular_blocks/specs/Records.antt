-- The code's record, as the definitions see it: the only definition here that is tied to a width. Assumes nothing.
use Rattle.regular_blocks.specs.Map.{RegularMap, map_from}
use Rattle.regular_blocks.specs.declared.grid.Grid.{Grid}

-- the map that a record stands for
abbrev pub map_of : Grid → RegularMap
map_of g = map_from g.count g.dims g.starts g.steps g.linear
