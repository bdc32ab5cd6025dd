use Rattle.std.proofs.Common.{arith, ap, ◌∙◌, List, [], get_or, Float}
use Rattle.std.specs.Float.{binary64}
use lib.ListN.{length-take}
use lib.Seq.{get_or-take}
use Rattle.interp_math.specs.Sum.{dot4}
use Rattle.block_sums.proofs.OfQuery.{parts-are}
use Rattle.block_sums.proofs.gradients.over.Goals as goal

pub returns-clause-parts : goal.returns-clause-parts
returns-clause-parts g c = λ j h.
    let a = c.args in
    let rows = c.parts-rows.result in
    let is = c.axes-a.ensures in
    let earlier = simp is at c.loop-j.invariant.at in
    let own = simp is at c.dot4-2.ensures in
    rw is (parts-are binary64 a.coeffs.now a.strides.now g.S.Sums.axes a.first c.requires.1 a.weights.now a.slopes.now c.parts-rows.ensures c.loop-j.parts c.loop-j.invariant.four (omega arith)
    (λ k l. earlier k (omega (arith, length-take c.axes-a.result rows)) ∙ ap (λ (r : List Float). dot4 binary64 (get_or a.weights.now g.S.Sums.axes []) r) (get_or-take g.S.Sums.axes rows k [] l)) own j h)
