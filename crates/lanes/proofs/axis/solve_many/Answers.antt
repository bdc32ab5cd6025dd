use native.Mathlib.Omega.{arith}
use lib.Ieee.{binary64}
use Rattle.lines.specs.Rows.{coefficient, upper_number}
use Rattle.lines.proofs.Rows.{looks-coefficient}
use Rattle.lanes.specs.Lanes.{zero_samples}
use Rattle.lanes.proofs.Groups.{lines-room, uppers-hold, axis-leaves}
use Rattle.lanes.proofs.Systems.{upper-same}
use Rattle.lanes.proofs.axis.solve_many.Goals as goal

pub solve_in_place-requires : goal.solve_in_place-requires
solve_in_place-requires g c =
    let a = c.args in
    let s = g.S.System.rows a.axis.system in
    let pos = c.requires.within.0 in
    let w = c.requires.within.1 in
    record {
      whole = (w.stride-pos, c.requires.whole, lines-room w pos c.requires.whole);
      uppers = uppers-hold (upper_number binary64 s) s.points a.scratch.now _ (upper-same binary64 s (g.met.S.System.four_points a.axis.system) zero_samples) c.upper_numbers.ensures (omega (arith, w.upper-room, w.right-room));
    }

pub returns-clause-scratch_after : goal.returns-clause-scratch_after
returns-clause-scratch_after g c =
    let a = c.args in
    let s = g.S.System.rows a.axis.system in
    axis-leaves (upper_number binary64 s) (coefficient binary64 s) s.points a.axis.stride a.axis.count a.axis.longest a.coeffs.now a.scratch.now c.requires.within.1 c.requires.within.0
    (looks-coefficient binary64 s (g.met.S.System.four_points a.axis.system)) _ _ _ _ (upper-same binary64 s (g.met.S.System.four_points a.axis.system) zero_samples)
    (rw c.points-n.ensures at c.first_cell_of-base.ensures) c.upper_numbers.ensures c.solve_in_place.ensures (rw c.points-n.ensures at c.keep_line.ensures)
