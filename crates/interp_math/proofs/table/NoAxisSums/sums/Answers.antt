use Rattle.std.proofs.Common.{◌∙◌}
use Rattle.std.specs.Float.{binary64}
use Rattle.interp_math.specs.Table.{turned}
use Rattle.interp_math.proofs.Tables.{lanes-none}
use Rattle.interp_math.proofs.table.NoAxisSums.sums.Goals as goal

pub returns : goal.returns
returns c = c.neighbours.ensures ∙ lanes-none binary64 _ c.args.strides.now (turned c.args.weights.now) c.args.at
