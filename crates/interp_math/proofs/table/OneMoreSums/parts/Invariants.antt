use Rattle.std.proofs.Common.{◌+◌, ◌*◌, get_or}
use Rattle.std.specs.Float.{binary64}
use Rattle.interp_math.specs.Table.{PartLanes}
use Rattle.interp_math.proofs.Tables.{TablesTo}
use Rattle.interp_math.proofs.table.OneMoreSums.parts.Given as goal

abbrev pub invariant-loop-p : goal.invariant-loop-p
invariant-loop-p g l =
    let j = g.S.Sums.axes in
    TablesTo (λ p rows. PartLanes binary64 l.coeffs l.strides l.weights l.slopes j (l.at + p * get_or l.strides j 0) rows) l.parts-items l.p
