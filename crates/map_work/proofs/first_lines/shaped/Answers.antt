use Rattle.map_work.proofs.FirstThree.{limit-usable}
use Rattle.map_work.proofs.first_lines.shaped.Goals as goal

pub invariant_of-second : goal.invariant_of-second
invariant_of-second _ c = let e = c.in-Ok.ensures in record { shaped = limit-usable c.args.line e.dims_len e.value }
