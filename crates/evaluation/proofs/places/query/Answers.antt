use Rattle.std.proofs.Common.{ap, ◌∙◌, ◌+◌, ◌*◌, arith, List, get_or, set, Float}
use Rattle.std.specs.Float.{nan}
use lib.Ieee.{of_bits}
use Rattle.evaluation.proofs.Queries.{query-next, query-none}
use Rattle.evaluation.proofs.places.query.Goals as goal

pub loop-a-init : goal.loop-a-init
unfolding of_bits
loop-a-init c = query-none _ _ _

pub loop-a-preserved : goal.loop-a-preserved
loop-a-preserved c =
    let l = c.loop-a in
    let a = c.args in
    ap (λ (x : List Float). set x l.a (get_or a.xs.now (l.a * a.n + a.i) nan)) l.invariant ∙ query-next a.xs.now a.n a.i l.a (omega arith)
