use Rattle.std.specs.Float.{binary64}
use Rattle.block_sums.proofs.OfBlock.{summable, values-are}
use Rattle.block_sums.proofs.values.ValuesFigures.put.Goals as goal

pub put_values-requires-clause-summable : goal.put_values-requires-clause-summable
put_values-requires-clause-summable g c = λ k h.
    rw c.count.ensures (summable (g.M.Map.view c.args.map.now) c.strides.ensures c.args.coeffs.now c.requires.sized (c.requires.looked k h).0)

pub returns : goal.returns
returns g c = λ checks.
    values-are (g.M.Map.view c.args.map.now) c.strides.ensures c.args.coeffs.now c.args.s.xs.now c.args.s.n c.args.s.from binary64 checks c.args.spots.now c.args.out.now c.requires.looked (rw c.count.ensures at c.put_values.ensures)
