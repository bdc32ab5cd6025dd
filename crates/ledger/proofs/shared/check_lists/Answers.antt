use mathlib.Core.Path.{refl}
use Rattle.ledger.proofs.Stages.{two-first, two-second, two-passed}
use Rattle.ledger.proofs.shared.check_lists.Goals as goal

pub returns-then-lines-axes : goal.returns-then-lines-axes
returns-then-lines-axes c = two-first _ _ _ _ refl c.if-lines-axes.true

pub returns-then-answers-axes : goal.returns-then-answers-axes
returns-then-answers-axes c = two-second _ _ _ _ refl c.if-lines-axes.false c.if-answers-axes.true

pub returns : goal.returns
returns c = two-passed _ _ _ _ refl c.if-lines-axes.false c.if-answers-axes.false
