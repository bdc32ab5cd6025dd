use Rattle.ledger.proofs.Stages.{samples-differ, samples-agree}
use Rattle.ledger.proofs.shared.check_lent.Goals as goal

pub returns-then-vals-points : goal.returns-then-vals-points
returns-then-vals-points c = samples-differ _ _ _ _ c.points.ensures c.if-vals-points.true

pub returns : goal.returns
returns c =
    samples-agree _ _ _ _ c.points.ensures c.if-vals-points.false c.check_scratch.ensures
