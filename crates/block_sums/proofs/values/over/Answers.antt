use Rattle.std.proofs.Common.{◌∙◌, ap, [], get_or, ℕ}
use Rattle.std.specs.Float.{binary64}
use Rattle.interp_math.specs.Sum.{dot4}
use Rattle.block_sums.proofs.OfQuery.{value-end}
use Rattle.block_sums.proofs.values.over.Goals as goal

pub returns : goal.returns
returns g c =
    let a = c.args in
    c.dot4.ensures
    ∙ ap (λ (j : ℕ). dot4 binary64 (get_or a.weights.now j []) c.sums.result) c.axes.ensures
    ∙ value-end binary64 a.coeffs.now a.strides.now g.S.Sums.axes a.first c.requires.1 a.weights.now c.turn-turned.ensures c.sums.ensures
