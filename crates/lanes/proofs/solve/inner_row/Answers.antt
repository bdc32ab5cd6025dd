use Rattle.lanes.specs.Groups.{inner_at}
use Rattle.lanes.proofs.solve.inner_row.Goals as goal

pub returns : goal.returns
unfolding inner_at
returns g c = rw (← c.inner_row-left.ensures) c.turn_row.ensures
