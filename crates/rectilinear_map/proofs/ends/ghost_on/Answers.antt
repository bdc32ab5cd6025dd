use native.Mathlib.Omega.{arith}
use borrow.Author.Tests.{lt-ltb, le-ltb}
use Rattle.rectilinear_blocks.proofs.Room.{four-knots}
use Rattle.rectilinear_map.proofs.ends.ghost_on.Goals as goal

pub returns-then-joined-a : goal.returns-then-joined-a
returns-then-joined-a g c = rw (le-ltb _ _ c.if-joined-a.true) c.no_ghost.ensures

pub ghost_of-requires : goal.ghost_of-requires
ghost_of-requires g c =
    let j = c.args.joined in
    four-knots j.axes.count j.axes.dims j.knots.now (omega (arith, c.well_formed)) j.axes.usable j.as_many c.args.a c.if-joined-a.false c.along.ensures

pub returns : goal.returns
returns g c = rw (lt-ltb _ _ c.if-joined-a.false, ← c.along.ensures) c.ghost_of.ensures
