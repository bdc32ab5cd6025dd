use Rattle.std.proofs.Common.{◌≡◌, false, ◌<◌, ◌≤◌, ◌*◌}
use lib.ListN.{drop}
use Rattle.shape.specs.Checks.{any_short, most_points}
use Rattle.shape.specs.Shape.{product}
use Rattle.shape.proofs.spans.points_to_limit.Given as goal

abbrev pub invariant-loop-n : goal.invariant-loop-n
invariant-loop-n l = record {
  above_zero : 0 < l.total;
  few : l.total ≤ most_points;
  product_is : l.total * product (drop l.n-index l.dims) ≡ product l.dims;
  none_short : any_short (drop l.n-index l.dims) ≡ false;
}
