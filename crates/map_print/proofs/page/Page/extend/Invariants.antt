use Rattle.std.proofs.Common.{take}
use Rattle.map_print.specs.Print.{Wrote}
use Rattle.map_print.proofs.page.Page.extend.Given as goal

abbrev pub invariant-loop-b : goal.invariant-loop-b
invariant-loop-b _ l = Wrote l.initial.self (take l.b-index l.bytes) l.self
