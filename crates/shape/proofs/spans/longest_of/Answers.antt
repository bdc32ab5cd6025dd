use Rattle.std.proofs.Common.{ap, ℕ, List, get_or}
use native.Mathlib.Omega.{arith}
use Rattle.shape.proofs.Lengths.{longest-at, longest-past}
use Rattle.shape.proofs.spans.longest_of.Goals as goal

pub loop-n-preserved : goal.loop-n-preserved
loop-n-preserved c =
    let items = c.at_most_four-n-items.ensures in
    let here = ap (λ (dims : List ℕ). get_or dims c.loop-n.n-index 0) items in
    omega (arith, c.loop-n.invariant, here, longest-at c.args.dims.now c.loop-n.n-index (rw items at c.loop-n-test.true))

pub returns : goal.returns
returns c =
    let items = c.at_most_four-n-items.ensures in
    omega (arith, c.loop-n.invariant, longest-past c.args.dims.now c.loop-n.n-index (rw items at c.loop-n-test.false))
