use Rattle.std.proofs.Common.{arith}
use Rattle.std.proofs.lemmas.List.{get_or_default}
use Rattle.evaluation.specs.Axes.{in_use}
use Rattle.evaluation.proofs.in_use.used_of.Goals as goal

pub returns : goal.returns
unfolding in_use
returns g c = λ none.
    let xs = c.args.xs in
    rw (
      c.used-4.ensures,
      c.used-3.ensures,
      c.used-2.ensures,
      c.used.ensures,
      get_or_default xs 0 none c.index-xs-0.result (omega (arith, c.well_formed)),
      get_or_default xs 1 none c.index-xs-1.result (omega (arith, c.well_formed)),
      get_or_default xs 2 none c.index-xs-2.result (omega (arith, c.well_formed)),
      get_or_default xs 3 none c.index-xs-3.result (omega (arith, c.well_formed)),
    )
