use Rattle.std.proofs.Common.{ap, ◌*◌, ◌+◌, ℕ, get_or}
use lib.ListN.{drop}
use native.Mathlib.Nat.{le-mul_of_pos_right}
use native.Mathlib.Omega.{arith}
use Rattle.shape.proofs.Lengths.{factor-at, product-past}
use Rattle.shape.proofs.Radix.{product-pos, drop-not-empty}
use Rattle.shape.proofs.spans.span.Goals as goal

pub overflow_mul-total : goal.overflow_mul-total
overflow_mul-total c =
    let dims = c.args.dims.now in
    let items = c.at_most_four-n-items.ensures in
    let rest = product-pos (drop (c.loop-n.n-index + 1) dims) (drop-not-empty dims (c.loop-n.n-index + 1) c.requires.positive) in
    let more = factor-at dims c.loop-n.n-index c.loop-n.total (rw items at c.loop-n-test.true) c.loop-n.invariant in
    rw items (omega (arith, c.requires.few, more, le-mul_of_pos_right (c.loop-n.total * get_or dims c.loop-n.n-index 0) rest))

pub loop-n-preserved : goal.loop-n-preserved
loop-n-preserved c =
    let items = c.at_most_four-n-items.ensures in
    rw items (factor-at c.args.dims.now c.loop-n.n-index c.loop-n.total (rw items at c.loop-n-test.true) c.loop-n.invariant)

pub returns : goal.returns
returns c =
    let items = c.at_most_four-n-items.ensures in
    omega (arith, c.loop-n.invariant, ap (λ (x : ℕ). c.loop-n.total * x) (product-past c.args.dims.now c.loop-n.n-index (rw items at c.loop-n-test.false)))
