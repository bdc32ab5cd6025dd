use mathlib.Core.Path.{sym, ◌∙◌}
use Rattle.map_fields.proofs.Firsts.{split-none, split-some}
use Rattle.map_fields.proofs.parts.split_once.Goals as goal

pub returns-in_err-i : goal.returns-in_err-i
returns-in_err-i c = rw c.from_residual.ensures (split-none c.args.b c.args.s.now (sym c.find.ensures ∙ c.in_err-i.was))

pub returns : goal.returns
returns c = split-some c.args.b c.args.s.now _ (sym c.find.ensures ∙ c.in_ok-i.was)
