use native.Mathlib.Omega.{arith}
use Rattle.knots.proofs.Totals.{total-at, total-past}
use Rattle.knots.proofs.joined.knots_on.Goals as goal

pub overflow_add-sum : goal.overflow_add-sum
overflow_add-sum c = omega (arith, c.loop-n.invariant, c.requires, total-at c.args.dims.now c.loop-n.n-index c.loop-n-test.true)

pub loop-n-preserved : goal.loop-n-preserved
loop-n-preserved c = omega (arith, c.loop-n.invariant, total-at c.args.dims.now c.loop-n.n-index c.loop-n-test.true)

pub returns : goal.returns
returns c = omega (arith, c.loop-n.invariant, total-past c.args.dims.now c.loop-n.n-index c.loop-n-test.false)
