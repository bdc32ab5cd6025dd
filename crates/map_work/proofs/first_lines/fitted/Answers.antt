use native.Mathlib.Omega.{arith}
use mathlib.Core.Path.{◌∙◌}
use lib.Seq.{length-take-le}
use Rattle.map_work.proofs.FirstThree.{lent, made-axes, ready-run, map-run, map-refused}
use Rattle.map_work.proofs.first_lines.fitted.Goals as goal

pub make-requires : goal.make-requires
make-requires _ c =
    let s = c.args.shaped in
    let p = c.requires.lengths in
    lent s.line s.shaped p.0 p.1 (length-take-le _ _ (omega (arith, p.1, s.shaped.small)) ∙ p.1)

pub run-requires : goal.run-requires
run-requires _ c = (omega arith, (ready-run _ c.requires.ready c.put_map.ensures, made-axes c.args.shaped.line c.args.shaped.shaped _ _ _ _ c.in-Ok.ensures))

pub returns-in-Ok : goal.returns-in-Ok
returns-in-Ok _ c = map-run _ _ _ _ _ c.in-Ok.ensures _ _ _ _ c.put_map.ensures c.run.ensures

pub returns-in-Err : goal.returns-in-Err
returns-in-Err _ c = map-refused _ _ _ _ _ _ c.in-Err.ensures _ c.number.ensures _ _ _ c.put_map-in-Err.ensures
