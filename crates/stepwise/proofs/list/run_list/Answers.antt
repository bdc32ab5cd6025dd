use mathlib.Core.Path.{◌∙◌}
use lib.Ieee.{nan}
use Rattle.stepwise.proofs.Runs.{run-start, run_step, run-done}
use Rattle.stepwise.proofs.list.run_list.Goals as goal

pub loop-i-init : goal.loop-i-init
loop-i-init g c = run-start _ _ _ _ _ _ _

pub run_one-requires-clause-i_in_bounds : goal.run_one-requires-clause-i_in_bounds
run_one-requires-clause-i_in_bounds g c =
    let v = c.loop-i.invariant in
    (c.loop-i-test.true, v.same-told ∙ c.requires.answers_len)

pub run_one-requires-clause-scratch_value : goal.run_one-requires-clause-scratch_value
run_one-requires-clause-scratch_value g c =
    let v = c.loop-i.invariant in
    rw (v.same-coefs, v.same-ledger, v.same-scratch) c.requires.scratch_value

pub loop-i-preserved : goal.loop-i-preserved
loop-i-preserved g c =
    run_step _ _ _ _ nan _ _ c.loop-i.invariant c.loop-i-test.true c.args.tasks.as_many c.requires.answers_len c.run_one.ensures

pub shape_of-coeffs : goal.shape_of-coeffs
shape_of-coeffs g c = c.loop-i.invariant.same-coefs

pub shape_of-ledger : goal.shape_of-ledger
shape_of-ledger g c = c.loop-i.invariant.same-ledger

pub shape_of-scratch : goal.shape_of-scratch
shape_of-scratch g c = c.loop-i.invariant.same-scratch

pub shape_of-answers : goal.shape_of-answers
shape_of-answers g c = c.loop-i.invariant.same-told

pub returns : goal.returns
returns g c =
    run-done _ _ _ _ nan _ _ c.loop-i.invariant c.loop-i-test.false c.requires.answers_len
