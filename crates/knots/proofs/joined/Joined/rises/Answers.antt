use mathlib.Core.Path.{refl, ◌∙◌}
use native.Mathlib.Omega.{arith}
use Prim.Native.Nat.{ℕ}
use lib.ListN.{take}
use Rattle.std.proofs.Common.{rules, tests}
use Rattle.std.proofs.lemmas.Iterator.{YieldsList-from_range}
use Rattle.std.proofs.lemmas.Iterator.Search.{all_from_yields_List}
use Rattle.knots.specs.Knots.{rises}
use Rattle.knots.specs.Joined.{knots_of}
use Rattle.knots.proofs.Totals.{rises-by-axes}
use Rattle.knots.proofs.joined.Joined.rises.Goals as goal

pub returns : goal.returns
returns c =
    let j = c.args.self in
    let dims = take j.axes.count j.axes.dims in
    all_from_yields_List (λ (a : ℕ). rises (knots_of j.knots.now dims a)) c.all.new.self _ _ c.all.ensures.ran
    (YieldsList-from_range 0 j.axes.count j.axes.count refl (omega arith))
    (λ x b q k. search (rules, tests))
    ∙ rises-by-axes j.knots.now dims j.axes.count
