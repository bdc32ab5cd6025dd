use mathlib.Core.Path.{refl, sym, ◌∙◌}
use Rattle.map_fields.proofs.FirstLines.{count-none, count-bad, Counting-short, Counting-bad, Counting-step, Counting-over, Counting-done}
use Rattle.map_fields.proofs.head.read_lengths.Goals as goal

pub returns-in_err-next : goal.returns-in_err-next
returns-in_err-next c = rw c.from_residual.ensures (count-none _ _ c.in_err-next.ensures.steps)

pub returns-in_err-count : goal.returns-in_err-count
returns-in_err-count c = rw c.from_residual-in_err-count.ensures (count-bad _ _ _ c.in_ok-next.ensures.steps (sym c.decimal.ensures ∙ c.in_err-count.was))

pub returns-in_err-next-2 : goal.returns-in_err-next-2
returns-in_err-next-2 c =
    rw c.from_residual-in_err-next-2.ensures
    (Counting-short _ _ _ c.in_ok-next.ensures.steps _ (sym c.decimal.ensures ∙ c.in_ok-count.was) _ _ _ _ c.loop-k.invariant c.loop-k-test.true c.in_err-next-2.ensures.steps.0)

pub returns-in_err-decimal : goal.returns-in_err-decimal
returns-in_err-decimal c =
    rw c.from_residual-in_err-decimal.ensures
    (Counting-bad _ _ _ c.in_ok-next.ensures.steps _ (sym c.decimal.ensures ∙ c.in_ok-count.was) _ _ _ _ c.loop-k.invariant
    _ _ c.in_ok-next-2.ensures.steps (sym c.decimal-in-loop-k.ensures ∙ c.in_err-decimal.was))

pub loop-k-preserved : goal.loop-k-preserved
loop-k-preserved c =
    Counting-step _ _ _ c.in_ok-next.ensures.steps _ (sym c.decimal.ensures ∙ c.in_ok-count.was) _ _ _ _ c.loop-k.invariant
    _ _ c.in_ok-next-2.ensures.steps _ _ (sym c.decimal-in-loop-k.ensures ∙ c.in_ok-decimal.was) c.store.ensures

pub returns-in-Some : goal.returns-in-Some
returns-in-Some c =
    Counting-over _ _ _ c.in_ok-next.ensures.steps _ (sym c.decimal.ensures ∙ c.in_ok-count.was) _ _ _ _ c.loop-k.invariant
    c.loop-k.auto.k-end c.loop-k-test.false _ _ c.in-Some.ensures.steps

pub returns-in-None : goal.returns-in-None
returns-in-None c =
    Counting-done _ _ _ c.in_ok-next.ensures.steps _ (sym c.decimal.ensures ∙ c.in_ok-count.was) _ _ _ _ c.loop-k.invariant refl
    c.loop-k.auto.k-end c.loop-k-test.false c.in-None.ensures.steps.0
