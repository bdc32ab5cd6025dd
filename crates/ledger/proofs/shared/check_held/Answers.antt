use Rattle.ledger.proofs.Stages.{two-first, two-second, two-passed}
use Rattle.ledger.proofs.shared.check_held.Goals as goal

pub returns-then-coeffs-points : goal.returns-then-coeffs-points
returns-then-coeffs-points c =
    two-first _ _ _ _ c.points-points.ensures c.if-coeffs-points.true

pub returns-then-ledger-points : goal.returns-then-ledger-points
returns-then-ledger-points c =
    two-second _ _ _ _ c.points-points.ensures c.if-coeffs-points.false c.if-ledger-points.true

pub returns : goal.returns
returns c =
    two-passed _ _ _ _ c.points-points.ensures c.if-coeffs-points.false c.if-ledger-points.false
