use Rattle.std.proofs.Common.{take}
use Rattle.map_print.specs.Print.{Wrote, floats_text}
use Rattle.map_print.proofs.page.Page.put_floats.Given as goal

abbrev pub invariant-loop-x : goal.invariant-loop-x
invariant-loop-x _ l = Wrote l.initial.self (floats_text (take l.x-index l.xs)) l.self
