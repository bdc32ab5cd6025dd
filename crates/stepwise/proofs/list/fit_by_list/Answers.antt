use mathlib.Core.Path.{sym, ◌∙◌}
use native.Mathlib.Omega.{arith}
use lib.ListN.{length, take}
use lib.Ieee.{binary64, nan}
use Rattle.shape.proofs.Exit.{err-is}
use Rattle.book.proofs.Answers.{begin-passed}
use Rattle.fits.specs.Fit.{solve}
use Rattle.ledger.proofs.Stages.{two-agree}
use Rattle.stepwise.proofs.Runs.{begun-calls, ran-not-begun, ran-not-listed, ran-accepted, spaced-order}
use Rattle.stepwise.proofs.list.fit_by_list.Goals as goal

pub returns-in_err-map : goal.returns-in_err-map
returns-in_err-map g c =
    rw (err-is {e = c.in_err-map.field-0.0} c.from_residual.result c.from_residual.ensures.1)
    (ran-not-begun (g.met.S.Spacing.grid_positive _ _) (g.met.S.Spacing.knots_positive _ _) _ c.in_err-map.ensures)

pub returns-in_err-check_lists : goal.returns-in_err-check_lists
returns-in_err-check_lists g c =
    rw (err-is {e = c.in_err-check_lists.field-0.0} c.from_residual-in_err-check_lists.result c.from_residual-in_err-check_lists.ensures.1)
    (ran-not-listed (g.met.S.Spacing.grid_positive _ _) (g.met.S.Spacing.knots_positive _ _) c.in_ok-map.ensures.0 _ c.in_err-check_lists.ensures)

pub start-requires : goal.start-requires
start-requires g c =
    let a = c.args in
    let p = begin-passed _ _ _ _ (g.met.S.Spacing.grid_positive _ _) (g.met.S.Spacing.knots_positive _ _) (length a.vals.now) (length a.coeffs.now) (length a.ledger.now) (length a.scratch.now) c.in_ok-map.ensures.0 in
    p.samples-size ∙ sym p.coefs-size

pub run_list-requires : goal.run_list-requires
run_list-requires g c =
    let f = c.in_ok-map.ensures in
    let p = two-agree _ _ _ (sym c.in_ok-check_lists.ensures) in
    record {
      answers_len = p.1;
      scratch_value = rw (f.1.0, f.1.1) (begun-calls _ _ _ _ (g.met.S.Spacing.grid_positive _ _) (g.met.S.Spacing.knots_positive _ _) _ _ _ f.0 c.start.ensures.0 c.start.ensures.1);
    }

pub invariant_of-tasks : goal.invariant_of-tasks
invariant_of-tasks g c = record { as_many = (two-agree _ _ _ (sym c.in_ok-check_lists.ensures)).0 }

pub returns : goal.returns
returns g c =
    let a = c.args in
    let dims = take a.shape.count a.shape.dims in
    let f = c.in_ok-map.ensures in
    ran-accepted (g.met.S.Spacing.grid_positive _ _) (g.met.S.Spacing.knots_positive _ _) f.0 c.in_ok-check_lists.ensures c.start.ensures.0 c.start.ensures.1 (rw (f.1.0, f.1.1) at c.run_list.ensures)
    (spaced-order nan (solve binary64 (g.S.Spacing.rows a.spacing dims)) a.shape.count a.shape.dims (omega (arith, c.well_formed)) _ _ (g.met.S.Spacing.grid_positive _ _) (g.met.S.Spacing.knots_positive _ _) (g.met.S.Spacing.looks a.spacing dims) a.vals.now _ _ _ f.0 _)
