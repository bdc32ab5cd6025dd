use native.Mathlib.Omega.{arith}
use lib.Ieee.{binary64}
use Rattle.rectilinear_map.proofs.OwnGhosts.{made_one}
use Rattle.rectilinear_map.proofs.record.MultiBsplineRectilinear.value_of_grid.Goals as goal

pub returns : goal.returns
returns c =
    let a = c.args in
    made_one binary64 a.shape.count a.shape.dims a.grid.now a.linear a.coeffs.now (omega (arith, c.well_formed)) a.x.now c.interp_one.ensures
