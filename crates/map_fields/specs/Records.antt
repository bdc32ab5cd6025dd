-- Line 1 as the code keeps it, and as the definitions see it. Assumes nothing.
use Rattle.std.specs.Prelude.{take}
use Rattle.map_fields.specs.Head.{Head}
use Rattle.map_fields.specs.declared.head.FirstLine.{FirstLine}

-- what a first line says
abbrev pub head_of : FirstLine → Head
head_of l = record { regular = l.regular; linear = l.linear; dims = take l.count l.dims }
