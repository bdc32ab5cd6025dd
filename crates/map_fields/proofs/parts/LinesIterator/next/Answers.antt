use mathlib.Core.Path.{sym, ◌∙◌}
use native.Mathlib.Omega.{arith}
use Rattle.map_fields.specs.Fields.{lines}
use Rattle.map_fields.proofs.Firsts.{line-none, line-next, line-last, line-there, fewer}
use Rattle.map_fields.proofs.parts.LinesIterator.next.Goals as goal

pub returns-then-is_empty-clause-steps : goal.returns-then-is_empty-clause-steps
returns-then-is_empty-clause-steps c = let e = sym c.self.view_is ∙ line-none _ c.if-is_empty.ensures in (e, e)

pub returns-in-Some-clause-steps : goal.returns-in-Some-clause-steps
returns-in-Some-clause-steps c = let e = c.in-Some.ensures in sym c.self.view_is ∙ line-next _ _ _ (omega (arith, e.2)) e.0 e.1

pub returns-in-Some-clause-goes : goal.returns-in-Some-clause-goes
returns-in-Some-clause-goes c =
    let e = c.in-Some.ensures in
    let f = fewer (sym c.self.view_is ∙ line-next _ _ _ (omega (arith, e.2)) e.0 e.1) in
    record { on = λ n. (tt, tt, f); keeps = tt; rests = λ n. tt }

pub returns-in-None-clause-steps : goal.returns-in-None-clause-steps
unfolding lines
returns-in-None-clause-steps c = sym c.self.view_is ∙ line-last _ (line-there _ c.if-is_empty.ensures) c.in-None.ensures

pub returns-in-None-clause-goes : goal.returns-in-None-clause-goes
unfolding lines
returns-in-None-clause-goes c =
    let f = fewer (sym c.self.view_is ∙ line-last _ (line-there _ c.if-is_empty.ensures) c.in-None.ensures) in
    record { on = λ n. (tt, tt, f); keeps = tt; rests = λ n. tt }
