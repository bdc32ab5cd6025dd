use Rattle.map_spline.specs.Surface.{surface_in}
use Rattle.map_work.proofs.QueryLines.{Asking}
use Rattle.map_work.proofs.queries.run.Given as goal

abbrev pub invariant-loop-line : goal.invariant-loop-line
invariant-loop-line g l = Asking (surface_in l.map) l.fn.lines l.initial.page l.line-iterator l.page l.asked l.outside g.row.N
