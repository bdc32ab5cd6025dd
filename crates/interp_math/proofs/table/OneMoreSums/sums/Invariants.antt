use Rattle.std.proofs.Common.{◌+◌, ◌*◌, get_or}
use Rattle.std.specs.Float.{binary64}
use Rattle.interp_math.specs.Table.{lanes, turned}
use Rattle.interp_math.proofs.Tables.{RowsTo}
use Rattle.interp_math.proofs.table.OneMoreSums.sums.Given as goal

abbrev pub invariant-loop-p : goal.invariant-loop-p
invariant-loop-p g l = RowsTo (λ k. lanes binary64 l.coeffs l.strides (turned l.weights) g.S.Sums.axes (l.at + k * get_or l.strides g.S.Sums.axes 0)) l.sums-items l.p
