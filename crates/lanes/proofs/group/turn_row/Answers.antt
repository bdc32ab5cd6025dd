use Rattle.lanes.proofs.Rows.{beside}
use Rattle.lanes.proofs.group.turn_row.Goals as goal

pub sweep-requires : goal.sweep-requires
sweep-requires g c =
    beside c.requires.lanes c.requires.rows.0 c.requires.rows.1 c.requires.rows.2 c.row_at-p.ensures c.row_at-q.ensures
