use Rattle.std.proofs.Common.{sym, ◌∙◌}
use Rattle.shape.specs.Sizes.{construction_scratch_len}
use Rattle.shape.proofs.Accepted.{scratch-is, told-refused}
use Rattle.shape.proofs.Shape.construction_scratch_len.Goals as goal

pub returns-in-Ok : goal.returns-in-Ok
returns-in-Ok c =
    let a = c.args.self in
    let found = c.in-Ok.ensures in
    c.scratch_len.ensures ∙ rw (found.1.0, found.1.1) (sym (scratch-is a.count a.dims found.0))

pub returns-in-Err : goal.returns-in-Err
unfolding construction_scratch_len
returns-in-Err c =
    let no = told-refused c.args.self.count c.args.self.dims c.in-Err.field-0 c.in-Err.ensures in
    rw no
