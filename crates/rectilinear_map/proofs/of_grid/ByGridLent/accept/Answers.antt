use mathlib.Core.Path.{◌≡◌, refl}
use lib.ListN.{length}
use native.Mathlib.Omega.{arith}
use Rattle.shape.proofs.Exit.{err-is}
use Rattle.rectilinear_blocks.specs.Eval.{map_answer}
use Rattle.rectilinear_map.proofs.Checks.{map-sound}
use Rattle.rectilinear_map.proofs.of_grid.ByGridLent.accept.Goals as goal

pub returns-in_err-joined : goal.returns-in_err-joined
unfolding map_answer
returns-in_err-joined c =
    rw (err-is {e = c.in_err-joined.field-0.0} c.from_residual.result c.from_residual.ensures.1) c.in_err-joined.ensures

pub invariant_of-result : goal.invariant_of-result
invariant_of-result c =
    let s = c.args.self.shape in
    let f = c.in_ok-joined.ensures in
    let four : length s.dims ≡ 4 = omega (arith, c.well_formed) in
    let sound = map-sound s.count s.dims c.args.self.grid.now c.args.coeffs four f.0 in
    record { ready = record { shape = sound.gridded.shape; four = four; strides-are = rw (f.1.0, f.1.1.0) at c.strides_of.ensures }; gridded = sound.gridded }

pub returns : goal.returns
unfolding map_answer
returns c =
    let s = c.args.self.shape in
    let f = c.in_ok-joined.ensures in
    let sound = map-sound s.count s.dims c.args.self.grid.now c.args.coeffs (omega (arith, c.well_formed)) f.0 in
    (f.0, (refl, record { shape = sound.gridded.shape; sized = sound.sized }))
