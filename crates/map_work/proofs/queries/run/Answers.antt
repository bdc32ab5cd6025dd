use Rattle.map_work.proofs.QueryLines.{Asking-step, Asking-bad, Asking-done}
use Rattle.map_work.proofs.queries.run.Goals as goal

pub loop-line-preserved : goal.loop-line-preserved
loop-line-preserved _ c =
    let r = c.requires.0 in
    Asking-step _ _ _ _ _ _ _ _ c.loop-line.invariant _ _ c.in-Some.ensures.steps _ _ _ c.requires.1 r.some-axis r.at-most-four _ c.bump-outside.ensures c.in-Some-ask_line.ensures

pub returns-in-None-ask_line : goal.returns-in-None-ask_line
returns-in-None-ask_line _ c =
    let e = c.in-None-ask_line.ensures in
    Asking-bad _ _ _ _ _ _ _ _ c.loop-line.invariant _ _ c.in-Some.ensures.steps e.0 _ _ e.1 c.put_unreadable.ensures

pub returns : goal.returns
returns _ c = Asking-done _ _ _ _ _ _ _ _ c.loop-line.invariant c.in-None.ensures.steps.0 _ c.put_totals.ensures
