use mathlib.Core.Path.{◌∙◌}
use native.Mathlib.Omega.{arith}
use lib.ListN.{length-drop}
use lib.Seq.{take_all}
use lib.Ieee.{Float, lt}
use Rattle.std.proofs.Common.{rules, tests}
use Rattle.std.proofs.lemmas.Iterator.{YieldsList-from_slice, YieldsList-from_zip}
use Rattle.std.proofs.lemmas.Iterator.Search.{all_from_yields_List}
use Rattle.knots.proofs.Increase.{rises-by-pairs}
use Rattle.knots.proofs.order.few_rise.Goals as goal

pub returns : goal.returns
returns c =
    all_from_yields_List (λ (p : Float × Float). lt p.0 p.1) c.all.new.self _ _ c.all.ensures.ran
    (YieldsList-from_zip (YieldsList-from_slice c.args.knots.now cc) (YieldsList-from_slice _ (c.zip.ensures.second.0 ∙ take_all _ _ (rw (length-drop 1 c.args.knots.now) (omega arith)))))
    (λ x b q k. search (rules, tests))
    ∙ rises-by-pairs c.args.knots.now
