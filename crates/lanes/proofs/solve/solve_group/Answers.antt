use lib.Ieee.{binary64}
use Rattle.lanes.proofs.Rows.{swept-by}
use Rattle.lanes.proofs.Solving.{lanes-solved}
use Rattle.lanes.proofs.Systems.{scheme-at}
use Rattle.lanes.proofs.solve.solve_group.Goals as goal

pub returns : goal.returns
returns g c =
    let a = c.args in
    let s = g.S.System.rows a.system in
    let same = c.requires.lanes.0 in
    lanes-solved (scheme-at binary64 s (g.met.S.System.four_points a.system) a.upper.now (rw same at c.requires.uppers) a.group.n same)
    a.group.stride a.group.first _ a.group.count a.coeffs.now c.requires.lanes.1 _ _ _ _ _
    (swept-by _ _ _ _ _ _ _ _ c.last_row-last.ensures.right c.turn_row.ensures)
    (swept-by _ _ _ _ _ _ _ _ c.first_row-first.ensures.right c.turn_row-2.ensures)
    c.inner_rows.ensures (rw c.last_row-last.ensures.left at c.last_row.ensures) c.back_rows.ensures
