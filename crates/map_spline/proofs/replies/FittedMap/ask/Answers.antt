use Rattle.map_spline.specs.Outside.{regular_axis_outside, rectilinear_axis_outside}
use Rattle.map_spline.proofs.replies.FittedMap.ask.Goals as goal

pub returns-in-Regular : goal.returns-in-Regular
unfolding regular_axis_outside
returns-in-Regular c = rw c.in-Regular.is c.ask.ensures

pub returns-in-Rectilinear : goal.returns-in-Rectilinear
unfolding rectilinear_axis_outside
returns-in-Rectilinear c = rw c.in-Rectilinear.is c.ask-in-Rectilinear.ensures
