use Rattle.map_work.proofs.FirstThree.{no-line, line-read}
use Rattle.map_work.proofs.first_lines.first_line.Goals as goal

pub returns-in_err-next : goal.returns-in_err-next
returns-in_err-next c = rw c.from_residual.ensures (no-line c.in_err-next.ensures.steps)

pub returns : goal.returns
returns c = line-read c.in_ok-next.ensures.steps _ c.read_head.ensures
