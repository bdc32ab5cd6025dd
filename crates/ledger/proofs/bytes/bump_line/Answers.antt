use mathlib.Core.Path.{refl}
use Rattle.ledger.proofs.DueBytes.{set-done, set_more}
use Rattle.ledger.proofs.bytes.bump_line.Goals as goal

pub returns : goal.returns
returns c =
    let a = c.args in
    set_more a.found.base a.found.stride a.found.n a.axis _ a.ledger.now refl c.requires.2 (set-done c.loop-i.invariant c.loop-i-test.false)
