-- Small whole numbers that every format holds. Assumes nothing.
use Rattle.std.specs.Prelude.{true, false, pos, Float}
use Rattle.std.specs.Float.{fin}

abbrev pub f0 : Float
f0 = fin false 0 (pos 0)

abbrev pub f1 : Float
f1 = fin false 1 (pos 0)

abbrev pub f-1 : Float
f-1 = fin true 1 (pos 0)

abbrev pub f2 : Float
f2 = fin false 1 (pos 1)

abbrev pub f3 : Float
f3 = fin false 3 (pos 0)

abbrev pub f4 : Float
f4 = fin false 1 (pos 2)

abbrev pub f6 : Float
f6 = fin false 3 (pos 1)
