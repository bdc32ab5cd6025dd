use native.Mathlib.Omega.{arith}
use Rattle.shape.proofs.Below.{none-start}
use Rattle.map_spline.proofs.Axes.{axis-found, axis-passed}
use Rattle.map_spline.proofs.replies.is_outside.Goals as goal

pub loop-a-init : goal.loop-a-init
loop-a-init g c = none-start _ _

pub returns-then-is_outside_on : goal.returns-then-is_outside_on
returns-then-is_outside_on g c =
    axis-found _ _ c.loop-a.a _ c.loop-a.invariant c.is_outside_on.ensures (omega (arith, c.requires.1, c.loop-a-test.true)) c.if-is_outside_on.true

pub loop-a-preserved : goal.loop-a-preserved
loop-a-preserved g c =
    axis-passed _ _ c.loop-a.a _ c.loop-a.invariant c.is_outside_on.ensures (omega (arith, c.requires.1, c.loop-a-test.true)) c.if-is_outside_on.false
