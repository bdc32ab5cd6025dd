use Rattle.std.proofs.Common.{◌≡◌, ◌*◌}
use lib.ListN.{drop}
use Rattle.shape.specs.Shape.{product}
use Rattle.shape.proofs.spans.span.Given as goal

abbrev pub invariant-loop-n : goal.invariant-loop-n
invariant-loop-n l = l.total * product (drop l.n-index l.dims) ≡ product l.dims
