use Rattle.std.proofs.Common.{rules, tests}
use Rattle.std.proofs.lemmas.Iterator.{cases_from_all, cases_from_any, YieldsList-from_range}
use mathlib.Core.Path.{◌≡◌, refl, sym, ◌∙◌}
use mathlib.Core.Logic.{◌≢◌}
use Prim.Native.Nat.{◌<◌, ◌≤◌}
use native.Mathlib.Omega.{arith}
use Rattle.shape.specs.Cells.{line}
use Rattle.shape.proofs.Checks.{check-fails, check-passes}
use Rattle.ledger.proofs.Stages.{none-refuse}
use Rattle.ledger.proofs.Others.{each-entry, one-entry, none_above, none_below, one_above, one_below}
use Rattle.ledger.proofs.bytes.check_bytes.Goals as goal

pub returns-then-all : goal.returns-then-all
returns-then-all c =
    let a = c.args in
    let f = a.found in
    let byte = line 0 f.base f.stride a.ledger.now in
    let r = cases_from_all _ _ _ (λ i. byte i ≡ a.axis) (λ i. byte i ≢ a.axis) c.all.ensures.ran (YieldsList-from_range 0 f.n f.n refl (omega arith)) (λ x q k. search (rules, tests)) (λ x q k. search (rules, tests)) in
    let each = each-entry (λ i. byte i ≡ a.axis) f.n (rw c.if-all.true at r) in
    sym (check-passes _ 8 _ (none_above a.axis f.base f.stride f.n a.ledger.now (λ i h. omega (arith, each i h))) ∙ check-passes _ 9 _ (none_below a.axis f.base f.stride f.n a.ledger.now (λ i h. omega (arith, each i h))) ∙ none-refuse)

pub returns-then-any : goal.returns-then-any
returns-then-any c =
    let a = c.args in
    let f = a.found in
    let byte = line 0 f.base f.stride a.ledger.now in
    let r = cases_from_any _ _ _ (λ i. a.axis < byte i) (λ i. byte i ≤ a.axis) c.any.ensures.ran (YieldsList-from_range 0 f.n f.n refl (omega arith)) (λ x q k. search (rules, tests)) (λ x q k. search (rules, tests)) in
    check-fails _ 8 _ (one_above a.axis f.base f.stride f.n a.ledger.now (one-entry (λ i. a.axis < byte i) f.n (rw c.if-any.true at r)))

pub returns : goal.returns
returns c =
    let a = c.args in
    let f = a.found in
    let byte = line 0 f.base f.stride a.ledger.now in
    let r = cases_from_all _ _ _ (λ i. byte i ≡ a.axis) (λ i. byte i ≢ a.axis) c.all.ensures.ran (YieldsList-from_range 0 f.n f.n refl (omega arith)) (λ x q k. search (rules, tests)) (λ x q k. search (rules, tests)) in
    let s = cases_from_any _ _ _ (λ i. a.axis < byte i) (λ i. byte i ≤ a.axis) c.any.ensures.ran (YieldsList-from_range 0 f.n f.n refl (omega arith)) (λ x q k. search (rules, tests)) (λ x q k. search (rules, tests)) in
    let one = one-entry (λ i. byte i ≢ a.axis) f.n (rw c.if-all.false at r) in
    let most = each-entry (λ i. byte i ≤ a.axis) f.n (rw c.if-any.false at s) in
    check-fails _ 9 _ (one_below a.axis f.base f.stride f.n a.ledger.now (one.0, one.1, omega (arith, one.2, most one.0 one.1)))
    ∙ sym (check-passes _ 8 _ (none_above a.axis f.base f.stride f.n a.ledger.now most))
