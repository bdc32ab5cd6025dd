use Rattle.std.proofs.Common.{◌+◌}
use Rattle.knots.proofs.Counts.{Counting}
use Rattle.knots.proofs.order.count_from.Given as goal

abbrev pub invariant-loop-knot : goal.invariant-loop-knot
invariant-loop-knot l = Counting l.knots l.x (l.low + l.len) l.count (l.low + l.knot-index)
