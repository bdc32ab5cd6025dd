use mathlib.Core.Path.{sym}
use Rattle.shape.proofs.Exit.{err-is}
use Rattle.evaluation.proofs.Builds.{built-refused, built-accepted}
use Rattle.rectilinear_map.proofs.build.build.Goals as goal

pub returns-in_err-joined : goal.returns-in_err-joined
returns-in_err-joined c =
    rw (err-is {e = c.in_err-joined.field-0.0} c.from_residual.result c.from_residual.ensures.1)
    (built-refused _ c.in_err-joined.ensures)

pub returns : goal.returns
returns c = let f = c.in_ok-joined.ensures in built-accepted (sym f.0) (rw (f.1.0, f.1.1.0, f.1.1.1) at c.accepted.ensures)
