use Rattle.map_fields.proofs.FirstLines.{Counting}
use Rattle.map_fields.proofs.head.read_lengths.Given as goal

abbrev pub invariant-loop-k : goal.invariant-loop-k
invariant-loop-k l = Counting l.initial.fields l.fields l.initial.dims l.dims l.k
