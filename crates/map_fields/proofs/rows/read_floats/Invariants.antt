use lib.ListN.{length}
use Rattle.map_fields.proofs.FloatRows.{Floating}
use Rattle.map_fields.proofs.rows.read_floats.Given as goal

abbrev pub invariant-loop-x : goal.invariant-loop-x
invariant-loop-x l = Floating (length l.initial.buffer) l.initial.fields l.buffer l.x-index l.fields
