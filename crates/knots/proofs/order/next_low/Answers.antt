use Prim.Native.Nat.{◌/◌}
use native.Mathlib.Omega.{arith}
use Rattle.knots.proofs.Counts.{between-quarters}
use Rattle.knots.proofs.order.next_low.Goals as goal

pub returns : goal.returns
returns c =
    between-quarters c.args.knots.now c.args.x c.args.low c.args.len (c.args.len / 4) c.requires.1 c.requires.0 (omega arith) (omega arith) _ _ _
    c.below-first.ensures.0 c.below-second.ensures.0 c.below-third.ensures.0
