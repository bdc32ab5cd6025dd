use mathlib.Core.Path.{sym}
use Rattle.ledger.proofs.Stages.{none-refuse}
use Rattle.stepwise.proofs.regular_steps.EvenSpacing.check_knots.Goals as goal

pub returns : goal.returns
returns c = sym none-refuse
