use Rattle.evaluation.specs.Stages.{LookedTo}
use Rattle.evaluation.proofs.map.look.Given as goal

abbrev pub invariant-loop-a : goal.invariant-loop-a
invariant-loop-a g l = let m = g.M.Map.view l.map in LookedTo (g.F.Figures.Rows m) m l.s.xs.now l.s.n l.s.from l.s.m l.a l.good l.spots
