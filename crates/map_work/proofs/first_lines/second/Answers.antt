use native.Mathlib.Omega.{arith}
use borrow.Author.Rules.{rules}
use mathlib.Core.Path.{◌∙◌}
use lib.Seq.{length-take-le}
use Rattle.map_work.proofs.FirstThree.{ready-next, row_read, row-unread}
use Rattle.map_work.proofs.first_lines.second.Goals as goal

pub third-requires : goal.third-requires
third-requires _ c = let r = c.in-Some.ensures in (omega arith, (search rules, ready-next _ _ _ _ r.row r.after c.requires))

pub returns-in-Some : goal.returns-in-Some
returns-in-Some _ c =
    let r = c.in-Some.ensures in
    let n = c.row_len-n.ensures in
    row_read _ _ _ _ r.row r.after _ _ _ (length-take-le _ _ (omega (arith, n.few)) ∙ n.floats) c.third.ensures

pub returns-in-None : goal.returns-in-None
returns-in-None _ c =
    let n = c.row_len-n.ensures in
    row-unread _ _ _ c.in-None.ensures.row _ _ (length-take-le _ _ (omega (arith, n.few)) ∙ n.floats) c.put_unreadable.ensures
