use Rattle.std.proofs.Common.{sym}
use lib.Ieee.{binary64}
use Rattle.regular_weights.proofs.Lengths.{scaled-four}
use Rattle.regular_weights.proofs.weights.scale.Goals as goal

pub returns : goal.returns
returns c = sym (scaled-four binary64 c.args.by c.args.w c.well_formed.0.1.0.1)
