use Rattle.shape.proofs.Below.{NoneYet}
use Rattle.map_spline.specs.Outside.{axis_outside}
use Rattle.map_spline.proofs.replies.is_outside.Given as goal

abbrev pub invariant-loop-a : goal.invariant-loop-a
invariant-loop-a g l = NoneYet (axis_outside (g.M.Asked.outside_on l.map) l.x) (g.M.Asked.spline l.map).axes l.a
