use Rattle.interp_math.specs.Table.{across}
use Rattle.interp_math.proofs.table.across.Goals as goal

pub returns : goal.returns
unfolding across
returns c = rw (c.column_sum.ensures, c.column_sum-2.ensures, c.column_sum-3.ensures, c.column_sum-4.ensures)
