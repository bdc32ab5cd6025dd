use Rattle.std.proofs.Common.{sym, ◌∙◌}
use Rattle.shape.specs.Sizes.{coeff_storage_len}
use Rattle.shape.proofs.Accepted.{storage-is, told-refused}
use Rattle.shape.proofs.Shape.coeff_storage_len.Goals as goal

pub returns-in-Ok : goal.returns-in-Ok
returns-in-Ok c =
    let a = c.args.self in
    let found = c.in-Ok.ensures in
    c.points.ensures ∙ rw (found.1.0, found.1.1) (sym (storage-is a.count a.dims found.0))

pub returns-in-Err : goal.returns-in-Err
unfolding coeff_storage_len
returns-in-Err c =
    let no = told-refused c.args.self.count c.args.self.dims c.in-Err.field-0 c.in-Err.ensures in
    rw no
