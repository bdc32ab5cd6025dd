use borrow.Author.Tests.{lt-ltb}
use lib.Ieee.{binary64}
use Rattle.rectilinear_basis.proofs.Knots.{before-first}
use Rattle.rectilinear_basis.proofs.basis.knot.Goals as goal

pub returns-then-p-lt2 : goal.returns-then-p-lt2
returns-then-p-lt2 c = let h = c.if-p-lt2.true in rw (lt-ltb _ 2 h, before-first binary64 _ h)
