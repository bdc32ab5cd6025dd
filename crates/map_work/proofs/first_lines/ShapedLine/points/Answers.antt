use mathlib.Core.Path.{◌∙◌}
use Rattle.shape.proofs.Accepted.{storage-is, usable-accepted}
use Rattle.map_work.proofs.first_lines.ShapedLine.points.Goals as goal

pub returns : goal.returns
returns c = let u = c.args.self.shaped in c.coeff_storage_len.ensures ∙ storage-is _ _ (usable-accepted _ _ u.four u.usable)
