use mathlib.Core.Path.{sym, ◌∙◌}
use Rattle.map_fields.proofs.Firsts.{field-next, field-last, left-some, fewer}
use Rattle.map_fields.proofs.parts.FieldsIterator.next.Goals as goal

pub returns-in-Some-clause-steps : goal.returns-in-Some-clause-steps
returns-in-Some-clause-steps c = let e = c.in-Some.ensures in sym c.self.view_is ∙ left-some _ _ c.in_ok-line.was ∙ field-next _ _ _ e.0 e.1 e.2

pub returns-in-Some-clause-goes : goal.returns-in-Some-clause-goes
returns-in-Some-clause-goes c =
    let e = c.in-Some.ensures in
    let f = fewer (sym c.self.view_is ∙ left-some _ _ c.in_ok-line.was ∙ field-next _ _ _ e.0 e.1 e.2) in
    record { on = λ n. (tt, tt, f); keeps = tt; rests = λ n. tt }

pub returns-in-None-clause-steps : goal.returns-in-None-clause-steps
returns-in-None-clause-steps c = sym c.self.view_is ∙ left-some _ _ c.in_ok-line.was ∙ field-last _ c.in-None.ensures

pub returns-in-None-clause-goes : goal.returns-in-None-clause-goes
returns-in-None-clause-goes c =
    let f = fewer (sym c.self.view_is ∙ left-some _ _ c.in_ok-line.was ∙ field-last _ c.in-None.ensures) in
    record { on = λ n. (tt, tt, f); keeps = tt; rests = λ n. tt }
