use mathlib.Core.Path.{sym, ◌∙◌}
use lib.ListN.{length}
use Rattle.shape.proofs.Exit.{err-is}
use Rattle.book.proofs.Answers.{begin-passed}
use Rattle.stepwise.proofs.Runs.{begun-refused, begun-accepted}
use Rattle.stepwise.proofs.steps.begin.Goals as goal

pub returns-in_err-check_begin : goal.returns-in_err-check_begin
returns-in_err-check_begin g c =
    rw (err-is {e = c.in_err-check_begin.field-0.0} c.from_residual.result c.from_residual.ensures.1)
    (begun-refused _ c.in_err-check_begin.ensures)

pub start-requires : goal.start-requires
start-requires g c =
    let a = c.args in
    let p = begin-passed _ _ _ _ (g.met.S.Spacing.grid_positive _ _) (g.met.S.Spacing.knots_positive _ _) (length a.vals.now) (length a.coeffs.now) (length a.ledger.now) a.scratch c.in_ok-check_begin.ensures.0 in
    p.samples-size ∙ sym p.coefs-size

pub returns : goal.returns
returns g c =
    begun-accepted (g.met.S.Spacing.grid_positive _ _) (g.met.S.Spacing.knots_positive _ _) c.in_ok-check_begin.ensures.0 c.start.ensures.0 c.start.ensures.1
