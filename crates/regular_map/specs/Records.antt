-- The code's records, as the definitions see them: the only definitions here that are tied to a width. Assumes nothing.
use Rattle.regular_blocks.specs.Map.{RegularMap}
use Rattle.regular_map.specs.declared.record.MultiBsplineRegular.{MultiBsplineRegular}

-- the map that a record stands for
abbrev pub map_of : MultiBsplineRegular → RegularMap
map_of r = record { count = r.count; lens = r.dims; starts = r.starts; steps = r.steps; linear = r.linearize_extrapolation }
