use mathlib.Core.Path.{refl, sym}
use native.Mathlib.Omega.{arith}
use Rattle.shape.proofs.Exit.{err-is}
use Rattle.regular_blocks.specs.Checks.{map_answer}
use Rattle.regular_map.proofs.Steps.{map-usable, map-sized}
use Rattle.regular_map.proofs.lent.MultiBsplineRegularLent.accept.Goals as goal

pub returns-in_err-axes : goal.returns-in_err-axes
unfolding map_answer
returns-in_err-axes c =
    rw (err-is {e = c.in_err-axes.field-0.0} c.from_residual.result c.from_residual.ensures.1) c.in_err-axes.ensures

pub returns : goal.returns
unfolding map_answer
returns c =
    let m = c.args.self in
    let f = c.in_ok-axes.ensures in
    let z = sym f.0 in
    (f.0, (refl, record { shape = map-usable m.count m.dims m.steps c.args.coeffs z (omega (arith, c.well_formed)); sized = map-sized m.count m.dims m.steps c.args.coeffs z }))
