use Prim.Native.Nat.{◌+◌}
use Rattle.knots.specs.Window.{Between}
use Rattle.knots.proofs.order.count_below.Given as goal

abbrev pub invariant-loop-len : goal.invariant-loop-len
invariant-loop-len l = Between l.knots l.x l.low (l.low + l.len)

abbrev pub decreases-loop-len : goal.decreases-loop-len
decreases-loop-len l = l.len
