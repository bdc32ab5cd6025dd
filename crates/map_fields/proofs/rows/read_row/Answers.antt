use Rattle.map_fields.proofs.FloatRows.{row-none, row-one}
use Rattle.map_fields.proofs.rows.read_row.Goals as goal

pub returns-in_err-line : goal.returns-in_err-line
returns-in_err-line c = let r = row-none _ _ _ c.in_err-line.ensures.steps in record { row = rw c.from_residual.ensures r.0; after = r.1 }

pub returns : goal.returns
returns c = let r = row-one _ _ _ _ _ c.in_ok-line.ensures.steps c.read_floats.ensures in record { row = r.0; after = r.1 }
