use lib.Ieee.{binary64}
use Rattle.lines.specs.Rows.{upper_number}
use Rattle.lanes.specs.Lanes.{zero_samples}
use Rattle.lanes.proofs.Groups.{Filled}
use Rattle.lanes.proofs.upper.inner_uppers.Given as goal

abbrev pub invariant-loop-i : goal.invariant-loop-i
invariant-loop-i g l =
    let s = g.S.System.rows l.system in
    Filled 0 (upper_number binary64 s zero_samples) l.last l.initial.upper l.upper l.i
