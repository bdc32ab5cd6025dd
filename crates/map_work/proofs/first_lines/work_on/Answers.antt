use native.Mathlib.Omega.{arith}
use Rattle.map_work.proofs.FirstThree.{too_long, worked, room-first}
use Rattle.map_work.proofs.first_lines.work_on.Goals as goal

pub returns-then-is_too_long : goal.returns-then-is_too_long
returns-then-is_too_long _ c = too_long c.args.input.now c.args.spare.now c.requires.0 _ _ c.clear.ensures (omega (arith, c.if-is_too_long.true)) c.put_unreadable.ensures

pub shaped-requires : goal.shaped-requires
shaped-requires _ c =
    (omega arith, room-first c.args.input.now c.args.spare.now _ _ _ _ c.requires c.clear.ensures c.new-lines.ensures c.in-Some.ensures.1)

pub returns-in-Some : goal.returns-in-Some
returns-in-Some _ c =
    worked c.args.input.now c.args.spare.now c.requires.0 _ _ c.clear.ensures (omega (arith, c.if-is_too_long.false)) c.new-lines.ensures c.in-Some.ensures.0 c.shaped.ensures

pub returns-in-None : goal.returns-in-None
returns-in-None _ c =
    worked c.args.input.now c.args.spare.now c.requires.0 _ _ c.clear.ensures (omega (arith, c.if-is_too_long.false)) c.new-lines.ensures c.in-None.ensures c.put_unreadable-in-None.ensures
