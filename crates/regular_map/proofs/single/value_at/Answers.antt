use Rattle.std.proofs.Common.{◌≡◌, [], ◌∷◌, refl, arith}
use Rattle.std.specs.Float.{binary64}
use Rattle.shape.proofs.Exit.{err-is}
use Rattle.regular_map.proofs.OneQuery.{looked-start, looked-refused, looked-small, last-summable, last-value, second, next}
use Rattle.regular_map.proofs.single.value_at.Goals as goal

pub returns-in_err-o0 : goal.returns-in_err-o0
returns-in_err-o0 c =
    let a = c.args in
    let w0 = looked-start binary64 a.grid.now a.coeffs.now a.x.now c.requires.0 c.requires.1 in
    let e = c.in_err-o0.ensures in
    rw (err-is {e = c.in_err-o0.field-0.0} c.from_residual.result c.from_residual.ensures.1) (rw e.0 (looked-refused binary64 w0 e.1.is e.1.none))

pub returns-in_err-o1 : goal.returns-in_err-o1
returns-in_err-o1 c =
    let a = c.args in
    let w0 = looked-start binary64 a.grid.now a.coeffs.now a.x.now c.requires.0 c.requires.1 in
    let w1 = second w0 c.in_ok-o0.ensures c.if-grid-eq1.false in
    let e = c.in_err-o1.ensures in
    rw (err-is {e = c.in_err-o1.field-0.0} c.from_residual-in_err-o1.result c.from_residual-in_err-o1.ensures.1) (rw e.0 (looked-refused binary64 w1 e.1.is e.1.none))

pub returns-in_err-o2 : goal.returns-in_err-o2
returns-in_err-o2 c =
    let a = c.args in
    let w0 = looked-start binary64 a.grid.now a.coeffs.now a.x.now c.requires.0 c.requires.1 in
    let w1 = second w0 c.in_ok-o0.ensures c.if-grid-eq1.false in
    let w2 = next w1 c.in_ok-o1.ensures c.if-grid-eq2.false in
    let e = c.in_err-o2.ensures in
    rw (err-is {e = c.in_err-o2.field-0.0} c.from_residual-in_err-o2.result c.from_residual-in_err-o2.ensures.1) (rw e.0 (looked-refused binary64 w2 e.1.is e.1.none))

pub returns-in_err-o3 : goal.returns-in_err-o3
returns-in_err-o3 c =
    let a = c.args in
    let w0 = looked-start binary64 a.grid.now a.coeffs.now a.x.now c.requires.0 c.requires.1 in
    let w1 = second w0 c.in_ok-o0.ensures c.if-grid-eq1.false in
    let w2 = next w1 c.in_ok-o1.ensures c.if-grid-eq2.false in
    let w3 = next w2 c.in_ok-o2.ensures c.if-grid-eq3.false in
    let e = c.in_err-o3.ensures in
    rw (err-is {e = c.in_err-o3.field-0.0} c.from_residual-in_err-o3.result c.from_residual-in_err-o3.ensures.1) (rw e.0 (looked-refused binary64 w3 e.1.is e.1.none))

pub value-requires : goal.value-requires
value-requires c =
    let a = c.args in
    let w0 = looked-start binary64 a.grid.now a.coeffs.now a.x.now c.requires.0 c.requires.1 in
    let is : a.grid.now.count ≡ 1 = c.if-grid-eq1.true in
    let p = c.in_ok-o0.ensures in
    rw (← is) (last-summable binary64 w0 p.is p.found p.weighed is (omega arith))

pub returns-then-grid-eq1 : goal.returns-then-grid-eq1
returns-then-grid-eq1 c =
    let a = c.args in
    let w0 = looked-start binary64 a.grid.now a.coeffs.now a.x.now c.requires.0 c.requires.1 in
    let is : a.grid.now.count ≡ 1 = c.if-grid-eq1.true in
    let p = c.in_ok-o0.ensures in
    last-value binary64 w0 p.is p.found p.weighed is (omega arith) (c.in_ok-o0.w0 ∷ c.in_ok-o0.w0 ∷ c.in_ok-o0.w0 ∷ []) refl (rw (← is) at c.value.ensures)

pub value-requires-then-grid-eq2 : goal.value-requires-then-grid-eq2
value-requires-then-grid-eq2 c =
    let a = c.args in
    let w0 = looked-start binary64 a.grid.now a.coeffs.now a.x.now c.requires.0 c.requires.1 in
    let w1 = second w0 c.in_ok-o0.ensures c.if-grid-eq1.false in
    let is : a.grid.now.count ≡ 2 = c.if-grid-eq2.true in
    let p = c.in_ok-o1.ensures in
    rw (← is) (last-summable binary64 w1 p.is p.found p.weighed is refl)

pub returns-then-grid-eq2 : goal.returns-then-grid-eq2
returns-then-grid-eq2 c =
    let a = c.args in
    let w0 = looked-start binary64 a.grid.now a.coeffs.now a.x.now c.requires.0 c.requires.1 in
    let w1 = second w0 c.in_ok-o0.ensures c.if-grid-eq1.false in
    let is : a.grid.now.count ≡ 2 = c.if-grid-eq2.true in
    let p = c.in_ok-o1.ensures in
    last-value binary64 w1 p.is p.found p.weighed is refl (c.in_ok-o1.w1 ∷ c.in_ok-o1.w1 ∷ []) refl (rw (← is) at c.value-then-grid-eq2.ensures)

pub value-requires-then-grid-eq3 : goal.value-requires-then-grid-eq3
value-requires-then-grid-eq3 c =
    let a = c.args in
    let w0 = looked-start binary64 a.grid.now a.coeffs.now a.x.now c.requires.0 c.requires.1 in
    let w1 = second w0 c.in_ok-o0.ensures c.if-grid-eq1.false in
    let w2 = next w1 c.in_ok-o1.ensures c.if-grid-eq2.false in
    let is : a.grid.now.count ≡ 3 = c.if-grid-eq3.true in
    let p = c.in_ok-o2.ensures in
    rw (← is) (last-summable binary64 w2 p.is p.found p.weighed is refl)

pub returns-then-grid-eq3 : goal.returns-then-grid-eq3
returns-then-grid-eq3 c =
    let a = c.args in
    let w0 = looked-start binary64 a.grid.now a.coeffs.now a.x.now c.requires.0 c.requires.1 in
    let w1 = second w0 c.in_ok-o0.ensures c.if-grid-eq1.false in
    let w2 = next w1 c.in_ok-o1.ensures c.if-grid-eq2.false in
    let is : a.grid.now.count ≡ 3 = c.if-grid-eq3.true in
    let p = c.in_ok-o2.ensures in
    last-value binary64 w2 p.is p.found p.weighed is refl (c.in_ok-o2.w2 ∷ []) refl (rw (← is) at c.value-then-grid-eq3.ensures)

pub value-requires-2 : goal.value-requires-2
value-requires-2 c =
    let a = c.args in
    let w0 = looked-start binary64 a.grid.now a.coeffs.now a.x.now c.requires.0 c.requires.1 in
    let w1 = second w0 c.in_ok-o0.ensures c.if-grid-eq1.false in
    let w2 = next w1 c.in_ok-o1.ensures c.if-grid-eq2.false in
    let w3 = next w2 c.in_ok-o2.ensures c.if-grid-eq3.false in
    let is : a.grid.now.count ≡ 4 = omega (arith, w3.more, a.grid.now.ready.shape.at-most-four) in
    let p = c.in_ok-o3.ensures in
    rw (← is) (last-summable binary64 w3 p.is p.found p.weighed is refl)

pub returns : goal.returns
returns c =
    let a = c.args in
    let w0 = looked-start binary64 a.grid.now a.coeffs.now a.x.now c.requires.0 c.requires.1 in
    let w1 = second w0 c.in_ok-o0.ensures c.if-grid-eq1.false in
    let w2 = next w1 c.in_ok-o1.ensures c.if-grid-eq2.false in
    let w3 = next w2 c.in_ok-o2.ensures c.if-grid-eq3.false in
    let is : a.grid.now.count ≡ 4 = omega (arith, w3.more, a.grid.now.ready.shape.at-most-four) in
    let p = c.in_ok-o3.ensures in
    last-value binary64 w3 p.is p.found p.weighed is refl [] refl (rw (← is) at c.value-2.ensures)

pub overflow_mul-first : goal.overflow_mul-first
overflow_mul-first c =
    let a = c.args in
    let w0 = looked-start binary64 a.grid.now a.coeffs.now a.x.now c.requires.0 c.requires.1 in
    let p = c.in_ok-o0.ensures in
    omega (arith, looked-small binary64 w0 p.is p.found p.weighed)

pub overflow_add-first : goal.overflow_add-first
overflow_add-first c =
    let a = c.args in
    let w0 = looked-start binary64 a.grid.now a.coeffs.now a.x.now c.requires.0 c.requires.1 in
    let w1 = second w0 c.in_ok-o0.ensures c.if-grid-eq1.false in
    let is : a.grid.now.count ≡ 2 = c.if-grid-eq2.true in
    let p = c.in_ok-o1.ensures in
    omega (arith, (last-summable binary64 w1 p.is p.found p.weighed is refl).within, c.well_formed)

pub overflow_mul-first-2 : goal.overflow_mul-first-2
overflow_mul-first-2 c =
    let a = c.args in
    let w0 = looked-start binary64 a.grid.now a.coeffs.now a.x.now c.requires.0 c.requires.1 in
    let w1 = second w0 c.in_ok-o0.ensures c.if-grid-eq1.false in
    let p = c.in_ok-o1.ensures in
    omega (arith, looked-small binary64 w1 p.is p.found p.weighed)

pub overflow_add-first-2 : goal.overflow_add-first-2
overflow_add-first-2 c =
    let a = c.args in
    let w0 = looked-start binary64 a.grid.now a.coeffs.now a.x.now c.requires.0 c.requires.1 in
    let w1 = second w0 c.in_ok-o0.ensures c.if-grid-eq1.false in
    let p = c.in_ok-o1.ensures in
    omega (arith, looked-small binary64 w1 p.is p.found p.weighed)

pub overflow_add-first-then-grid-eq3 : goal.overflow_add-first-then-grid-eq3
overflow_add-first-then-grid-eq3 c =
    let a = c.args in
    let w0 = looked-start binary64 a.grid.now a.coeffs.now a.x.now c.requires.0 c.requires.1 in
    let w1 = second w0 c.in_ok-o0.ensures c.if-grid-eq1.false in
    let w2 = next w1 c.in_ok-o1.ensures c.if-grid-eq2.false in
    let is : a.grid.now.count ≡ 3 = c.if-grid-eq3.true in
    let p = c.in_ok-o2.ensures in
    omega (arith, (last-summable binary64 w2 p.is p.found p.weighed is refl).within, c.well_formed)

pub overflow_mul-first-3 : goal.overflow_mul-first-3
overflow_mul-first-3 c =
    let a = c.args in
    let w0 = looked-start binary64 a.grid.now a.coeffs.now a.x.now c.requires.0 c.requires.1 in
    let w1 = second w0 c.in_ok-o0.ensures c.if-grid-eq1.false in
    let w2 = next w1 c.in_ok-o1.ensures c.if-grid-eq2.false in
    let p = c.in_ok-o2.ensures in
    omega (arith, looked-small binary64 w2 p.is p.found p.weighed)

pub overflow_add-first-3 : goal.overflow_add-first-3
overflow_add-first-3 c =
    let a = c.args in
    let w0 = looked-start binary64 a.grid.now a.coeffs.now a.x.now c.requires.0 c.requires.1 in
    let w1 = second w0 c.in_ok-o0.ensures c.if-grid-eq1.false in
    let w2 = next w1 c.in_ok-o1.ensures c.if-grid-eq2.false in
    let p = c.in_ok-o2.ensures in
    omega (arith, looked-small binary64 w2 p.is p.found p.weighed)

pub overflow_add-first-4 : goal.overflow_add-first-4
overflow_add-first-4 c =
    let a = c.args in
    let w0 = looked-start binary64 a.grid.now a.coeffs.now a.x.now c.requires.0 c.requires.1 in
    let w1 = second w0 c.in_ok-o0.ensures c.if-grid-eq1.false in
    let w2 = next w1 c.in_ok-o1.ensures c.if-grid-eq2.false in
    let w3 = next w2 c.in_ok-o2.ensures c.if-grid-eq3.false in
    let is : a.grid.now.count ≡ 4 = omega (arith, w3.more, a.grid.now.ready.shape.at-most-four) in
    let p = c.in_ok-o3.ensures in
    omega (arith, (last-summable binary64 w3 p.is p.found p.weighed is refl).within, c.well_formed)
