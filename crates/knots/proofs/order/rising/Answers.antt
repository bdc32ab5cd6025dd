use mathlib.Core.Path.{◌≡◌, refl, ap, sym, ◌∙◌}
use mathlib.Core.Bool.{true, false}
use native.Mathlib.Omega.{arith}
use Prim.Native.Nat.{◌*◌, ◌-◌, ◌/◌, ◌<◌}
use lib.ListN.{length, take, drop, length-drop}
use lib.Seq.{take_all}
use Rattle.std.proofs.Common.{rules, tests}
use Rattle.std.proofs.lemmas.Iterator.{YieldsList-from_range}
use Rattle.std.proofs.lemmas.Iterator.Search.{all_from_yields_List}
use Rattle.knots.specs.Knots.{rises}
use Rattle.knots.proofs.Increase.{rises-short}
use Rattle.knots.proofs.Eights.{nine, by_nines}
use Rattle.knots.proofs.order.rising.Goals as goal

pub returns-then-is_empty : goal.returns-then-is_empty
returns-then-is_empty c = search (rules, tests, rises-short)

pub returns-then-all : goal.returns-then-all
returns-then-all c =
    let ks = c.args.knots.now in
    let k = (length ks - 1) / 8 in
    let all = all_from_yields_List (nine ks) c.all.new.self _ _ c.all.ensures.ran (YieldsList-from_range 0 k k refl (omega arith)) (λ x b q i. search (rules, tests)) in
    let some : 0 < length ks = search (rules, tests) in
    let whole : take (length ks - 8 * k) (drop (8 * k) ks) ≡ drop (8 * k) ks = take_all _ _ (omega (arith, length-drop (8 * k) ks)) in
    c.few_rise.ensures ∙ ap rises whole ∙ by_nines ks true k (omega (arith, some)) (sym c.if-all.true ∙ all)

pub returns-else-all : goal.returns-else-all
returns-else-all c =
    let ks = c.args.knots.now in
    let k = (length ks - 1) / 8 in
    let all = all_from_yields_List (nine ks) c.all.new.self _ _ c.all.ensures.ran (YieldsList-from_range 0 k k refl (omega arith)) (λ x b q i. search (rules, tests)) in
    let some : 0 < length ks = search (rules, tests) in
    c.if-all.false ∙ by_nines ks false k (omega (arith, some)) (sym c.if-all.false ∙ all)
