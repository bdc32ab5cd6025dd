use Rattle.std.proofs.Common.{◌∙◌, ap, List, arith, Float}
use Rattle.std.specs.Float.{binary64}
use Rattle.interp_math.specs.Table.{turned, column, across}
use Rattle.interp_math.proofs.Tables.{turned-at, lanes-up}
use Rattle.interp_math.proofs.table.OneMoreSums.sums.Goals as goal

pub returns : goal.returns
returns g c =
    let a = c.args in
    let row = c.pick.ensures ∙ ap (column a.weights.now) c.axes-a.ensures ∙ turned-at a.weights.now g.S.Sums.axes (omega arith) in
    c.across.ensures
    ∙ ap (λ (w : List Float). across binary64 w c.loop-p.sums-items) row
    ∙ lanes-up binary64 _ a.strides.now (turned a.weights.now) _ a.at c.loop-p.invariant c.loop-p-test.false
