use Rattle.std.proofs.Common.{[], get_or}
use Rattle.std.specs.Float.{binary64}
use Rattle.interp_math.specs.Table.{table_of, across}
use Rattle.interp_math.proofs.Tables.{RowsTo}
use Rattle.interp_math.proofs.slopes.parts_over.Given as goal

abbrev pub invariant-loop-k : goal.invariant-loop-k
invariant-loop-k l = RowsTo (λ k. across binary64 (get_or l.weights l.a []) (table_of l.tables k)) l.parts l.k
