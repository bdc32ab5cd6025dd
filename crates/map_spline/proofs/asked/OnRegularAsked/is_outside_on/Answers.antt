use mathlib.Core.Path.{sym, ap, ◌∙◌}
use lib.Ieee.{binary64}
use Rattle.regular_map.specs.Place.{placed_loc}
use Rattle.regular_map.proofs.Placing.{placed-is}
use Rattle.map_spline.specs.Outside.{is_outside_loc}
use Rattle.map_spline.proofs.asked.OnRegularAsked.is_outside_on.Goals as goal

pub returns-in-Err : goal.returns-in-Err
returns-in-Err c =
    let a = c.args in
    let m = a.self.now.map in
    ap is_outside_loc (sym (ap placed_loc c.in-Err.is) ∙ placed-is binary64 m.count m.dims m.starts m.steps a.axis a.x c.requires.0 c.requires.1 c.place.result c.place.ensures)
