use Rattle.lanes.specs.Groups.{last_at}
use Rattle.lanes.proofs.solve.last_row.Goals as goal

pub returns : goal.returns
unfolding last_at
returns g c = c.turn_row.ensures
