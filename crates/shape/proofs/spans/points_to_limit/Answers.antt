use Rattle.std.proofs.Common.{◌≡◌, false, sym, ◌∙◌, ◌*◌, ◌+◌, ◌<◌, ◌≤◌, ℕ, List, length, get_or}
use lib.Dec.{ltb}
use lib.ListN.{drop}
use Prim.Native.Nat.{min}
use native.Mathlib.Nat.{mul-one, mul-pos, le-mul_of_pos_right}
use native.Mathlib.Omega.{arith}
use borrow.Author.Tests.{ltb-false}
use Rattle.shape.specs.Checks.{any_short}
use Rattle.shape.specs.Shape.{product}
use Rattle.shape.proofs.Lengths.{short-at, factor-at, product-past, or-false, product-pos-of-short}
use Rattle.shape.proofs.spans.points_to_limit.Goals as goal

module _ (dims : List ℕ) (i total : ℕ) (h : i < length dims) (long : any_short (drop i dims) ≡ false) where
  -- the length at i, and those after it
  four : (4 ≤ get_or dims i 0) × (any_short (drop (i + 1) dims) ≡ false)
  four =
      let p = or-false (ltb (get_or dims i 0) 4) (any_short (drop (i + 1) dims)) (sym (short-at dims i h) ∙ long) in
      (ltb-false _ _ p.0, p.1)

  -- the points, where a number above the limit is a factor of them
  past : total * product (drop i dims) ≡ product dims → 16777216 < total * get_or dims i 0 → 16777217 ≡ min (product dims) 16777217
  past e many =
      let most = le-mul_of_pos_right (total * get_or dims i 0) (product-pos-of-short _ four.1) in
      omega (arith, many, most, factor-at dims i total h e)

pub returns-then-n-gt16777216 : goal.returns-then-n-gt16777216
returns-then-n-gt16777216 c =
    let v = c.loop-n.invariant in
    past c.args.dims.now c.loop-n.n-index c.loop-n.total c.loop-n-test.true v.none_short v.product_is
    (omega (arith, le-mul_of_pos_right (get_or c.args.dims.now c.loop-n.n-index 0) v.above_zero, c.if-n-gt16777216.true))

pub returns-then-total-gt16777216 : goal.returns-then-total-gt16777216
returns-then-total-gt16777216 c =
    let v = c.loop-n.invariant in
    past c.args.dims.now c.loop-n.n-index c.loop-n.total c.loop-n-test.true v.none_short v.product_is c.if-total-gt16777216.true

pub loop-n-preserved : goal.loop-n-preserved
loop-n-preserved c =
    let v = c.loop-n.invariant in
    let k = four c.args.dims.now c.loop-n.n-index c.loop-n.total c.loop-n-test.true v.none_short in
    record {
      above_zero = mul-pos v.above_zero (omega (arith, k.0));
      few = c.if-total-gt16777216.false;
      product_is = factor-at c.args.dims.now c.loop-n.n-index c.loop-n.total c.loop-n-test.true v.product_is;
      none_short = k.1;
    }

pub returns : goal.returns
returns c =
    let v = c.loop-n.invariant in
    let none = product-past c.args.dims.now c.loop-n.n-index c.loop-n-test.false in
    rw (sym v.product_is, none, mul-one) (omega (arith, v.few))
