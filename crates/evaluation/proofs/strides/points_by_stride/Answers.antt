use mathlib.Core.Path.{◌≡◌}
use Prim.Native.Nat.{◌*◌}
use native.Mathlib.Omega.{arith}
use lib.ListN.{take, get_or}
use Rattle.shape.specs.Shape.{size}
use Rattle.evaluation.proofs.Striding.{points-of-stride}
use Rattle.evaluation.proofs.strides.points_by_stride.Goals as goal

pub returns : goal.returns
returns c =
    rw c.strides_of-strides.ensures (points-of-stride c.args.axes.dims (omega (arith, c.well_formed)) c.args.axes.count c.args.axes.usable.some-axis)

pub overflow_mul-result : goal.overflow_mul-result
overflow_mul-result c =
    let is : get_or c.args.axes.dims 0 0 * get_or c.strides_of-strides.result 0 0 ≡ size (take c.args.axes.count c.args.axes.dims) = returns c in
    omega (arith, is, c.args.axes.usable.few-points)
