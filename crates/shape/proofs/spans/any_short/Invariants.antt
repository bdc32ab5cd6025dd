use Rattle.std.proofs.Common.{◌≡◌}
use lib.ListN.{drop}
use Rattle.shape.specs.Checks.{any_short}
use Rattle.shape.proofs.spans.any_short.Given as goal

abbrev pub invariant-loop-n : goal.invariant-loop-n
invariant-loop-n l = any_short l.dims ≡ any_short (drop l.n-index l.dims)
