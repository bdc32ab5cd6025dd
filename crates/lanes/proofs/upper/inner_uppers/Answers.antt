use mathlib.Core.Path.{refl, ap, ◌∙◌}
use Prim.Native.Nat.{◌-◌}
use native.Mathlib.Omega.{arith}
use lib.ListN.{length-set}
use lib.Ieee.{binary64}
use Rattle.multibspline.specs.Thomas.{Left, at}
use Rattle.lanes.specs.Lanes.{zero_samples}
use Rattle.lanes.specs.Groups.{upper_from}
use Rattle.lanes.proofs.Groups.{filled-first, filled-by, filled-all}
use Rattle.lanes.proofs.Systems.{upper_first, upper-next}
use Rattle.lanes.proofs.upper.inner_uppers.Goals as goal

pub loop-i-init : goal.loop-i-init
loop-i-init g c =
    let s = g.S.System.rows c.args.system in
    let four = g.met.S.System.four_points c.args.system in
    filled-first c.args.upper.now (omega (arith, four, c.points-last.ensures)) (c.first_row.ensures.upper ∙ upper_first binary64 s four zero_samples)

pub loop-i-preserved : goal.loop-i-preserved
loop-i-preserved g c =
    let s = g.S.System.rows c.args.system in
    let four = g.met.S.System.four_points c.args.system in
    let i = c.loop-i.i in
    let size = length-set c.args.upper.now 0 c.first_row.result.upper in
    filled-by (upper_from binary64 (s.inner i)) c.loop-i.invariant (omega (arith, c.loop-i.auto.i)) c.loop-i-test.true (omega (arith, size, c.requires, c.points-last.ensures))
    refl (c.upper_from.ensures ∙ ap (λ (left : Left). upper_from binary64 left (at c.loop-i.upper (i - 1))) c.inner_row.ensures) (upper-next binary64 s four zero_samples i (omega (arith, c.loop-i.auto.i)) (omega (arith, c.loop-i-test.true, c.points-last.ensures)))

pub returns : goal.returns
returns g c =
    let four = g.met.S.System.four_points c.args.system in
    let all = filled-all c.args.upper.now c.first_row.result.upper c.loop-i.invariant c.loop-i-test.false (omega (arith, four, c.points-last.ensures)) in
    rw c.points-last.ensures at all
