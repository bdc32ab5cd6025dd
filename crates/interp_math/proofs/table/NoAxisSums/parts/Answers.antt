use Rattle.std.proofs.Common.{◌≡◌, ◌∙◌, arith}
use Rattle.std.specs.Float.{binary64}
use Rattle.interp_math.specs.Table.{sloped}
use Rattle.interp_math.proofs.Tables.{lanes-none}
use Rattle.interp_math.proofs.table.NoAxisSums.parts.Goals as goal

pub returns : goal.returns
returns c = record {
  each = λ k h.
      let a = c.args in
      let none : k ≡ 0 = omega arith in
      rw none (c.neighbours.ensures ∙ lanes-none binary64 _ a.strides.now (sloped a.weights.now a.slopes.now 0) a.at);
}
