use Rattle.std.proofs.Common.{◌<◌, ◌∙◌, ap, length, arith}
use lib.ListN.{get_or-append, length-take}
use Rattle.evaluation.specs.Stages.{no_spot}
use Rattle.evaluation.specs.declared.stages.Spot.{Spot}
use Rattle.evaluation.proofs.Looking.{axis-cells, looked-start, looked-small, kept-same, look-next}
use Rattle.evaluation.proofs.map.look.Goals as goal

pub loop-a-init : goal.loop-a-init
loop-a-init g c = looked-start (g.M.Map.view c.args.map.now) c.strides-strides.ensures c.args.s.xs.now c.args.s.n c.args.s.from c.args.s.m (g.met.F.Figures.none _)
    (λ k h. let here : k < length c.zero_firsts.new.spots = omega (arith, c.zero_firsts.auto.spots, length-take c.args.s.m c.args.spots.now) in
    ap (λ (s : Spot). s.first) (get_or-append _ _ no_spot k here) ∙ c.zero_firsts.ensures k (omega (arith, length-take c.args.s.m c.args.spots.now)))

pub put_places-good-requires-clause-small : goal.put_places-good-requires-clause-small
put_places-good-requires-clause-small g c =
    let ready = c.strides-strides.ensures in (
      rw c.axis-axis.ensures.points (axis-cells c.loop-a.a ready (omega arith)),
      λ k h. looked-small (g.M.Map.view c.args.map.now) ready c.args.s.xs.now c.args.s.n c.args.s.from c.args.s.m c.loop-a.invariant k (omega arith),
    )

pub look-requires-clause-kept : goal.look-requires-clause-kept
look-requires-clause-kept g c = λ k none h.
    let p = c.put_places-good.ensures in
    rw (kept-same (g.M.Map.view c.args.map.now) c.strides-strides.ensures c.args.s.xs.now c.args.s.n c.args.s.from c.args.s.m (omega arith) c.axis-axis.ensures c.along.ensures p.placed c.along-in-loop-a.ensures k (omega arith)) (p.kept k none (omega arith))

pub loop-a-preserved : goal.loop-a-preserved
loop-a-preserved g c =
    look-next (g.M.Map.view c.args.map.now) c.strides-strides.ensures c.args.s.xs.now c.args.s.n c.args.s.from c.args.s.m (omega arith) c.axis-axis.ensures c.along.ensures c.put_places-good.ensures.placed c.along-in-loop-a.ensures
    (g.F.Figures.Rows _) (g.met.F.Figures.tables _) (λ k h. c.look.ensures.firsts k (omega arith)) (λ x k h. c.look.ensures.rows _ (omega arith) c.axis-axis.ensures x k (omega arith)) c.loop-a.invariant
