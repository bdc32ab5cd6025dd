use native.Mathlib.Omega.{arith}
use lib.ListN.{take}
use Rattle.shape.proofs.Accepted.{usable-not-empty, longest-le}
use Rattle.shape.proofs.axes.Axes.scratch_len.Goals as goal

pub overflow_mul-result : goal.overflow_mul-result
overflow_mul-result c =
    let a = c.args.self in
    omega (arith, c.longest.ensures, a.usable.few-points, longest-le (take a.count a.dims) (usable-not-empty a.count a.dims (omega (arith, c.well_formed)) a.usable))
