use Rattle.std.proofs.Common.{sym, ◌∙◌}
use borrow.Author.Tests.{lt-ltb, le-ltb}
use Rattle.shape.proofs.Lengths.{short-at, short-past}
use Rattle.shape.proofs.spans.any_short.Goals as goal

pub returns-then-n-lt4 : goal.returns-then-n-lt4
returns-then-n-lt4 c = sym (c.loop-n.invariant ∙ rw (short-at c.args.dims.now c.loop-n.n-index c.loop-n-test.true, lt-ltb _ _ c.if-n-lt4.true))

pub loop-n-preserved : goal.loop-n-preserved
loop-n-preserved c = c.loop-n.invariant ∙ rw (short-at c.args.dims.now c.loop-n.n-index c.loop-n-test.true, le-ltb _ _ c.if-n-lt4.false)

pub returns : goal.returns
returns c = sym (c.loop-n.invariant ∙ short-past c.args.dims.now c.loop-n.n-index c.loop-n-test.false)
