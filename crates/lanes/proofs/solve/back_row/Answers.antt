use Rattle.lanes.specs.Lanes.{back_cell}
use Rattle.lanes.proofs.solve.back_row.Goals as goal

pub returns : goal.returns
unfolding back_cell
returns g c = c.turn_row.ensures
