use Rattle.map_fields.proofs.FirstLines.{either-short, either-long, either-yes, either-no, either-other}
use Rattle.map_fields.proofs.head.either.Goals as goal

pub returns-in_default : goal.returns-in_default
returns-in_default c = either-short _ _ _ c.in_default.len_below

pub returns-in_default-2 : goal.returns-in_default-2
returns-in_default-2 c = either-long _ _ _ c.in_default.len_at_least

pub returns-then-b-yes : goal.returns-then-b-yes
returns-then-b-yes c = either-yes _ _ _ c.in-len1.len_at_least c.in-len1.len_below c.if-b-yes.true

pub returns-then-b-no : goal.returns-then-b-no
returns-then-b-no c = either-no _ _ _ c.in-len1.len_at_least c.in-len1.len_below c.if-b-yes.false c.if-b-no.true

pub returns-else-b-no : goal.returns-else-b-no
returns-else-b-no c = either-other _ _ _ c.in-len1.len_at_least c.in-len1.len_below c.if-b-yes.false c.if-b-no.false
