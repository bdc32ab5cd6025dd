use mathlib.Core.Path.{◌∙◌}
use Rattle.rectilinear_blocks.specs.Eval.{map_answer}
use Rattle.capi.proofs.on_rectilinear.corvezan_rectilinear_check.Goals as goal

pub returns : goal.returns
unfolding map_answer
returns c =
    c.number.ensures ∙ rw c.shape_of.ensures at c.check.ensures
