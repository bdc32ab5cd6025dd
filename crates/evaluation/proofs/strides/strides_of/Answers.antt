use mathlib.Core.Path.{◌≡◌}
use native.Mathlib.Omega.{arith}
use Rattle.interp_math.proofs.Four.{is-four}
use Rattle.evaluation.proofs.Striding.{strides-of-1, strides-of-2, strides-of-3, strides-of-4, small-of-3, last-of-4, small-of-4}
use Rattle.evaluation.proofs.strides.strides_of.Goals as goal

pub returns-then-count-eq1 : goal.returns-then-count-eq1
returns-then-count-eq1 c =
    rw c.if-count-eq1.true (strides-of-1 c.args.axes.dims (omega (arith, c.well_formed)))

pub returns-then-count-eq2 : goal.returns-then-count-eq2
returns-then-count-eq2 c =
    rw c.if-count-eq2.true (strides-of-2 c.args.axes.dims (omega (arith, c.well_formed)))

pub overflow_mul-result : goal.overflow_mul-result
overflow_mul-result c =
    omega (arith, small-of-3 c.args.axes.dims (omega (arith, c.well_formed)) (rw c.if-count-eq3.true at c.args.axes.usable))

pub returns-then-count-eq3 : goal.returns-then-count-eq3
returns-then-count-eq3 c =
    rw c.if-count-eq3.true (strides-of-3 c.args.axes.dims (omega (arith, c.well_formed)))

pub overflow_mul-last : goal.overflow_mul-last
overflow_mul-last c =
    let is : c.args.axes.count ≡ 4 = is-four c.args.axes.count c.args.axes.usable.some-axis c.args.axes.usable.at-most-four c.if-count-eq1.false c.if-count-eq2.false c.if-count-eq3.false in
    omega (arith, last-of-4 c.args.axes.dims (omega (arith, c.well_formed)) (rw is at c.args.axes.usable))

pub overflow_mul-result-2 : goal.overflow_mul-result-2
overflow_mul-result-2 c =
    let is : c.args.axes.count ≡ 4 = is-four c.args.axes.count c.args.axes.usable.some-axis c.args.axes.usable.at-most-four c.if-count-eq1.false c.if-count-eq2.false c.if-count-eq3.false in
    omega (arith, small-of-4 c.args.axes.dims (omega (arith, c.well_formed)) (rw is at c.args.axes.usable))

pub returns : goal.returns
returns c =
    let is : c.args.axes.count ≡ 4 = is-four c.args.axes.count c.args.axes.usable.some-axis c.args.axes.usable.at-most-four c.if-count-eq1.false c.if-count-eq2.false c.if-count-eq3.false in
    rw is (strides-of-4 c.args.axes.dims (omega (arith, c.well_formed)))
