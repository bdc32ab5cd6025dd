use Rattle.std.proofs.Common.{◌∙◌, rules, tests}
use lib.Ieee.{of_bits}
use Rattle.std.proofs.lemmas.Iterator.{YieldsList-from_slice}
use Rattle.std.proofs.lemmas.Iterator.Search.{any_from_yields_List}
use Rattle.regular_map.proofs.Steps.{bad, any-bad}
use Rattle.regular_map.proofs.build.any_step_bad.Goals as goal

pub returns : goal.returns
unfolding of_bits
returns c =
    any_from_yields_List bad c.any.new.self _ _ c.any.ensures.ran (YieldsList-from_slice c.args.steps.now cc) (λ x b q k. search (rules, tests))
    ∙ any-bad c.args.steps.now
