use Rattle.std.proofs.Common.{◌≡◌, max}
use lib.ListN.{drop}
use Rattle.shape.specs.Shape.{longest}
use Rattle.shape.proofs.spans.longest_of.Given as goal

abbrev pub invariant-loop-n : goal.invariant-loop-n
invariant-loop-n l = max l.most (longest (drop l.n-index l.dims)) ≡ longest l.dims
