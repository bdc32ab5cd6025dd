use Rattle.std.proofs.Common.{◌∙◌, sym, rules, tests}
use lib.Ieee.{Float}
use Rattle.std.proofs.lemmas.Iterator.{YieldsList-from_slice, YieldsList-from_zip}
use Rattle.std.proofs.lemmas.Iterator.Search.{all_from_yields_List}
use Rattle.float_text.specs.Bits.{same_bits}
use Rattle.oracle_list.proofs.CellLaws.{every_pair-zip, every_pair-length}
use Rattle.oracle_list.proofs.cells.same_cells.Goals as goal

pub returns-then-a-b : goal.returns-then-a-b
returns-then-a-b c =
    all_from_yields_List (λ (p : Float × Float). same_bits p.0 p.1) c.all.new.self _ _ c.all.ensures.ran
    (YieldsList-from_zip (YieldsList-from_slice c.args.a.now cc) (YieldsList-from_slice c.args.b.now cc))
    (λ x b q k. search (rules, tests))
    ∙ sym (every_pair-zip _ _ _ c.if-a-b.true)

pub returns-else-a-b : goal.returns-else-a-b
returns-else-a-b c = search (rules, every_pair-length)
