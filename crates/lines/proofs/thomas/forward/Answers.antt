use native.Mathlib.Omega.{arith}
use lib.Ieee.{binary64}
use Rattle.multibspline.specs.Records.{samples}
use Rattle.multibspline.proofs.Thomas.{elim-whole}
use Rattle.lines.specs.Rows.{first_row, inner_row, last_row}
use Rattle.lines.proofs.thomas.forward.Goals as goal

pub returns : goal.returns
returns g c =
    let a = c.args in
    let s = g.S.System.rows a.system in
    let y = samples a.along a.coeffs.now in
    let four = g.met.S.System.four_points a.system in
    let n = c.requires.of.0 in
    let first = c.first_row-first.ensures in
    let before = c.inner_rows-before.ensures in
    rw n
    (elim-whole binary64 (first_row s y) (inner_row s y) (last_row s y) s.points a.along.longest a.scratch.now _ _ _ (omega (arith, four)) (omega (arith, c.requires.room.0, n))
    (rw (n, first) at before.result_value) (rw (n, first) at before.scratch_after) (rw n at c.last_row.ensures))
