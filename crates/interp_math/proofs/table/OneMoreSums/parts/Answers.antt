use Rattle.std.proofs.Common.{arith}
use Rattle.std.specs.Float.{binary64}
use Rattle.interp_math.proofs.Tables.{parts-next}
use Rattle.interp_math.proofs.table.OneMoreSums.parts.Goals as goal

pub returns : goal.returns
returns g c =
    let a = c.args in
    let e = c.parts_over.ensures in
    parts-next binary64 a.coeffs.now a.strides.now a.weights.now a.slopes.now g.S.Sums.axes a.at c.loop-p.invariant (omega arith) (omega arith)
    (simp c.axes-a.ensures at e.earlier) (simp c.axes-a.ensures at e.own) (simp c.axes-a.ensures at e.value)
