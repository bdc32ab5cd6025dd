use mathlib.Core.Path.{◌≡◌, ◌∙◌}
use Prim.Native.Nat.{◌<◌}
use native.Mathlib.Omega.{arith}
use lib.Ieee.{binary64}
use Rattle.shape.specs.Cells.{put, from, on_line, write_line}
use Rattle.multibspline.specs.Scratch.{solved}
use Rattle.multibspline.specs.Records.{samples}
use Rattle.multibspline.proofs.Sweeps.{line-scratch, line-coeffs}
use Rattle.lines.specs.Rows.{first_row, inner_row, last_row}
use Rattle.lines.proofs.thomas.solve_checked.Goals as goal

pub returns : goal.returns
returns g c =
    let a = c.args in
    let s = g.S.System.rows a.system in
    let y = samples a.along a.coeffs.now in
    let n = c.requires.of.0 in
    let pos : 0 < s.points = omega (arith, g.met.S.System.four_points a.system) in
    let room = rw n at c.requires.room in
    let e = rw n at c.forward.ensures in
    let b = c.back_substitute.ensures in
    let x = solved binary64 a.along.n a.along.longest c.forward.new.scratch in
    let wrote : c.back_substitute.new.coeffs ≡ write_line a.along.base a.along.stride x a.along.n a.coeffs.now = b.coeffs_after in
    let left : c.back_substitute.new.scratch ≡ put (from a.along.longest) x a.along.n c.forward.new.scratch = b.scratch_after in
    record {
      coeffs_after =
          rw n
          ((rw n at wrote)
          ∙ line-coeffs binary64 (first_row s y) (inner_row s y) (last_row s y) s.points a.along.longest _ _ _ pos room.0 room.1 e (rw n at left) (on_line a.along.base a.along.stride) _);
      scratch_after = rw n (line-scratch binary64 (first_row s y) (inner_row s y) (last_row s y) s.points a.along.longest _ _ _ pos room.0 room.1 e (rw n at left));
    }
