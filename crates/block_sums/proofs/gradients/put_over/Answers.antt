use Rattle.std.proofs.Common.{◌≡◌, suc, ◌+◌, ◌∙◌, arith, below_more}
use Rattle.std.specs.Float.{binary64}
use Rattle.shape.proofs.Cells.{put-ext}
use Rattle.evaluation.proofs.Blocks.{writing_start, writing-put}
use Rattle.block_sums.specs.Sums.{part_of}
use Rattle.block_sums.proofs.gradients.put_over.Goals as goal

pub loop-k-init : goal.loop-k-init
loop-k-init g c = record { put = writing_start; four = λ k h. absurd (let q : ⊥ = omega arith in q) }

pub loop-k-preserved : goal.loop-k-preserved
loop-k-preserved g c =
    let a = c.args in
    let count = suc g.S.Sums.axes in
    let is : c.axes-count.result + 1 ≡ suc g.S.Sums.axes = omega (arith, c.axes-count.ensures) in
    record {
      put = writing-put a.from a.n count (part_of binary64 a.coeffs.now a.strides.now count a.spots.now) c.loop-k.invariant.put c.loop-k-test.true
          ((rw is at c.put_parts.ensures) ∙ put-ext _ _ _ count c.loop-k.out c.over-parts.ensures.parts);
      four = below_more _ _ c.loop-k.invariant.four c.over-parts.ensures.four;
    }
