use mathlib.Core.Path.{sym, ap, ◌∙◌}
use Rattle.knots.specs.declared.place.Loc.{Loc}
use Rattle.shape.specs.Refusal.{answer_or}
use Rattle.rectilinear_map.specs.Place.{no_place}
use Rattle.rectilinear_map.proofs.Placing.{placed-is}
use Rattle.map_spline.specs.Outside.{is_outside}
use Rattle.map_spline.proofs.asked.OnRectilinearAsked.is_outside_on.Goals as goal

pub returns-in-Err : goal.returns-in-Err
returns-in-Err c =
    let a = c.args in
    let m = a.self.now.map in
    ap (λ (l : Loc). is_outside l.sat) (sym (ap (answer_or no_place) c.in-Err.is) ∙ placed-is m.count m.dims a.self.now.grid.now a.axis a.x c.requires.0 c.requires.1 c.place.result c.place.ensures)
