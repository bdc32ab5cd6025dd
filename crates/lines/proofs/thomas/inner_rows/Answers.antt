use Prim.Native.Nat.{◌-◌, ◌≤◌}
use native.Mathlib.Omega.{arith}
use Rattle.multibspline.proofs.Sweeps.{elim-start, elim-step, elim-last, elim-done}
use Rattle.lines.proofs.thomas.inner_rows.Goals as goal

pub loop-i-init : goal.loop-i-init
loop-i-init g c =
    let four : 4 ≤ c.args.along.n = omega (arith, g.met.S.System.four_points c.args.system, c.requires.of.0) in
    elim-start c.args.scratch.now (omega arith) (omega arith) c.keep_row.ensures

pub loop-i-preserved : goal.loop-i-preserved
loop-i-preserved g c =
    elim-step c.loop-i.invariant c.loop-i-test.true (omega (arith, c.requires.room.0)) c.inner_row-row.ensures.result_value c.inner_row-row.ensures.scratch_after

pub returns : goal.returns
returns g c =
    let a = c.args in
    record {
      result_value = elim-last c.loop-i.invariant c.loop-i-test.false (a.along.n - 2) (omega arith);
      scratch_after = elim-done a.scratch.now c.loop-i.invariant c.loop-i-test.false (omega arith) c.keep_row.ensures;
    }
