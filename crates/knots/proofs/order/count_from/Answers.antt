use mathlib.Core.Path.{◌≡◌}
use Prim.Native.Nat.{ℕ, ◌+◌, ◌-◌}
use native.Mathlib.Omega.{arith}
use lib.ListN.{drop}
use lib.Ieee.{nan}
use Rattle.std.proofs.lemmas.List.{get_or-take, get_or-drop}
use Rattle.knots.proofs.Counts.{counting-next, counting-done}
use Rattle.knots.proofs.order.count_from.Goals as goal

pub loop-knot-preserved : goal.loop-knot-preserved
loop-knot-preserved c =
    let i : ℕ = c.args.low + c.loop-knot.knot-index in
    let e : c.args.low + (c.loop-knot.knot-index + 1) ≡ i + 1 = omega arith in
    rw (e, c.below-count.ensures.0, get_or-take (c.args.low + c.args.len - c.args.low) (drop c.args.low c.args.knots.now) c.loop-knot.knot-index nan (omega arith), get_or-drop c.args.low c.args.knots.now c.loop-knot.knot-index nan)
    (counting-next c.loop-knot.invariant c.requires.0 (omega arith))

pub returns : goal.returns
returns c =
    let w = c.loop-knot.invariant in
    (counting-done w (omega arith), omega (arith, w.some, w.most, w.high_end))
