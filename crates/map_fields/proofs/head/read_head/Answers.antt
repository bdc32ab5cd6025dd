use mathlib.Core.Path.{sym, ◌∙◌}
use Rattle.map_fields.proofs.FirstLines.{head-none, head-kind, head-one, head-flag, head-lengths, head-read}
use Rattle.map_fields.proofs.head.read_head.Goals as goal

pub returns-in_err-next : goal.returns-in_err-next
returns-in_err-next c = rw c.from_residual.ensures (head-none _ (sym c.new-fields.ensures ∙ c.in_err-next.ensures.steps.0))

pub returns-in_err-regular : goal.returns-in_err-regular
returns-in_err-regular c = rw c.from_residual-in_err-regular.ensures (head-kind _ _ _ (sym c.new-fields.ensures ∙ c.in_ok-next.ensures.steps) c.in_err-regular.ensures)

pub returns-in_err-next-2 : goal.returns-in_err-next-2
returns-in_err-next-2 c = rw c.from_residual-in_err-next-2.ensures (head-one _ _ _ (sym c.new-fields.ensures ∙ c.in_ok-next.ensures.steps) c.in_err-next-2.ensures.steps.0)

pub returns-in_err-linear : goal.returns-in_err-linear
returns-in_err-linear c =
    rw c.from_residual-in_err-linear.ensures
    (head-flag _ _ _ (sym c.new-fields.ensures ∙ c.in_ok-next.ensures.steps) _ _ c.in_ok-next-2.ensures.steps c.in_ok-regular.ensures.0 c.in_err-linear.ensures)

pub returns-in_err-count : goal.returns-in_err-count
returns-in_err-count c =
    rw c.from_residual-in_err-count.ensures
    (head-lengths _ _ _ (sym c.new-fields.ensures ∙ c.in_ok-next.ensures.steps) _ _ c.in_ok-next-2.ensures.steps
    c.in_ok-regular.ensures.0 c.in_ok-linear.ensures.0 c.in_err-count.ensures)

pub returns : goal.returns
returns c =
    head-read _ _ _ (sym c.new-fields.ensures ∙ c.in_ok-next.ensures.steps) _ _ c.in_ok-next-2.ensures.steps
    _ c.in_ok-regular.ensures.0 c.in_ok-linear.ensures.0 c.in_ok-count.ensures c.in_ok-regular.ensures.1 c.in_ok-linear.ensures.1
