use Rattle.std.specs.Float.{binary64}
use Rattle.block_sums.proofs.OfBlock.{summable, gradients-are}
use Rattle.block_sums.proofs.gradients.GradientsFigures.put.Goals as goal

pub put_gradients-requires-clause-summable : goal.put_gradients-requires-clause-summable
put_gradients-requires-clause-summable g c = λ k h.
    rw c.count.ensures (summable (g.M.Map.view c.args.map.now) c.strides.ensures c.args.coeffs.now c.requires.sized (c.requires.looked k h).0)

pub returns : goal.returns
returns g c = λ checks.
    gradients-are (g.M.Map.view c.args.map.now) c.strides.ensures c.args.coeffs.now c.args.s.xs.now c.args.s.n c.args.s.from binary64 checks c.args.spots.now c.args.out.now c.requires.looked c.put_gradients.ensures.four (rw c.count.ensures at c.put_gradients.ensures.put)
