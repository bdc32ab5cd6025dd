use Rattle.std.proofs.Common.{◌≡◌, ◌+◌}
use lib.ListN.{drop}
use Rattle.knots.specs.Joined.{total}
use Rattle.knots.proofs.joined.knots_on.Given as goal

abbrev pub invariant-loop-n : goal.invariant-loop-n
invariant-loop-n l = l.sum + total (drop l.n-index l.dims) ≡ total l.dims
