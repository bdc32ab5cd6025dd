use Rattle.std.proofs.Common.{sym, ◌∙◌}
use Rattle.shape.proofs.Accepted.{told-refused, stride-is, stride-none, stride-refused}
use Rattle.shape.proofs.Shape.stride.Goals as goal

pub returns-in-Ok : goal.returns-in-Ok
returns-in-Ok c =
    let a = c.args.self in
    let found = c.in-Ok.ensures in
    c.stride.ensures ∙ rw (found.1.0, found.1.1) (sym (stride-is a.count a.dims found.0 c.args.axis (rw found.1.0 at c.if-axis-axes.true)))

pub returns-in_default : goal.returns-in_default
returns-in_default c = stride-none _ _ _ (rw c.in-Ok.ensures.1.0 at c.if-axis-axes.false)

pub returns-in_default-2 : goal.returns-in_default-2
returns-in_default-2 c =
    let a = c.args.self in
    stride-refused a.count a.dims c.args.axis (told-refused a.count a.dims _ c.in_default.ensures)
