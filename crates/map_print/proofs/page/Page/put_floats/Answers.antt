use native.Mathlib.Omega.{arith}
use lib.ListN.{take}
use lib.Seq.{length-take-le}
use Rattle.map_print.proofs.Printing.{grown, length-floats_text, floats-start, floats-more}
use Rattle.map_print.proofs.page.Page.put_floats.Goals as goal

pub loop-x-init : goal.loop-x-init
loop-x-init _ c = floats-start _ c.args.xs.now

pub put_float-requires : goal.put_float-requires
put_float-requires _ c =
    let n = length-take-le c.loop-x.x-index c.args.xs.now (omega (arith, c.loop-x-test.true)) in
    omega (arith, c.requires, c.loop-x-test.true, grown c.loop-x.invariant, length-floats_text (take c.loop-x.x-index c.args.xs.now), n)

pub loop-x-preserved : goal.loop-x-preserved
loop-x-preserved _ c = floats-more _ _ _ _ _ c.loop-x-test.true c.loop-x.invariant c.put_float.ensures
