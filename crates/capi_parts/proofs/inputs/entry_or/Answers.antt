use mathlib.Core.Path.{sym}
use lib.ListN.{get_or-eq_default}
use Rattle.capi_parts.proofs.inputs.entry_or.Goals as goal

pub returns : goal.returns
returns g c = sym (get_or-eq_default c.args.entries.now c.args.none c.if-i-entries.false)
