use Rattle.regular_map.specs.Records.{map_of}
use Rattle.map_spline.proofs.Asking.{regular-accepted}
use Rattle.map_spline.proofs.asked.OnRegularAsked.value.Goals as goal

pub returns-clause-accepted : goal.returns-clause-accepted
returns-clause-accepted c = let a = c.args in regular-accepted (map_of a.self.now.map) a.self.now.coeffs.now a.x.now _ c.interp_one.ensures
