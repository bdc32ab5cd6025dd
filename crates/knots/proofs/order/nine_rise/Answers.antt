use mathlib.Core.Path.{◌≡◌}
use native.Mathlib.Omega.{arith}
use Prim.Native.Nat.{◌-◌}
use lib.ListN.{length, take, drop, length-drop}
use lib.Seq.{take_all}
use Rattle.knots.proofs.Eights.{at_once}
use Rattle.knots.proofs.order.nine_rise.Goals as goal

pub returns : goal.returns
returns c =
    let ks = c.args.knots.now in
    let on = drop c.args.from ks in
    let whole : take (length ks - c.args.from) on ≡ on = take_all (length ks - c.args.from) on (omega (arith, length-drop c.args.from ks)) in
    rw whole (at_once on (omega (arith, length-drop c.args.from ks, c.requires)))
