use native.Mathlib.Omega.{arith}
use borrow.Author.Rules.{rules}
use mathlib.Core.Path.{◌∙◌}
use lib.Seq.{length-take-le}
use Rattle.map_work.proofs.FirstThree.{ready-next, samples-read, samples-unread}
use Rattle.map_work.proofs.first_lines.third.Goals as goal

pub fitted-requires : goal.fitted-requires
fitted-requires _ c = let r = c.in-Some.ensures in (omega arith, (search rules, ready-next _ _ _ _ r.row r.after c.requires.ready))

pub returns-in-Some : goal.returns-in-Some
returns-in-Some _ c =
    let r = c.in-Some.ensures in
    let n = c.points-n.ensures in
    samples-read _ _ _ _ r.row r.after _ _ _ _ (length-take-le _ _ (omega (arith, n, c.args.shaped.shaped.small)) ∙ n) c.fitted.ensures

pub returns-in-None : goal.returns-in-None
returns-in-None _ c =
    let n = c.points-n.ensures in
    samples-unread _ _ _ c.in-None.ensures.row _ _ _ (length-take-le _ _ (omega (arith, n, c.args.shaped.shaped.small)) ∙ n) c.put_unreadable.ensures
