use Rattle.std.proofs.Common.{sym, ◌∙◌}
use Rattle.shape.proofs.Accepted.{told-refused, lines_are, lines_none, lines-refused}
use Rattle.shape.proofs.Shape.lines.Goals as goal

pub returns-in-Ok : goal.returns-in-Ok
returns-in-Ok c =
    let a = c.args.self in
    let found = c.in-Ok.ensures in
    c.lines.ensures ∙ rw (found.1.0, found.1.1) (sym (lines_are a.count a.dims found.0 c.args.axis (rw found.1.0 at c.if-axis-axes.true)))

pub returns-in_default : goal.returns-in_default
returns-in_default c = lines_none _ _ _ (rw c.in-Ok.ensures.1.0 at c.if-axis-axes.false)

pub returns-in_default-2 : goal.returns-in_default-2
returns-in_default-2 c =
    let a = c.args.self in
    lines-refused a.count a.dims c.args.axis (told-refused a.count a.dims _ c.in_default.ensures)
