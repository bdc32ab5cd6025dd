use Rattle.std.proofs.Common.{sym, ◌∙◌, ◌≡◌, refl, arith}
use borrow.Author.Tests.{lt-ltb, le-ltb, eq-eqb, ne_eqb}
use lib.ListN.{take}
use Rattle.shape.specs.Shape.{size}
use Rattle.shape.specs.Checks.{first_refusal, shape_checks}
use Rattle.shape.proofs.Accepted.{usable}
use Rattle.shape.proofs.Shape.axes.Goals as goal
use Rattle.shape.proofs.Shape.axes.Goals.{then-count-eq0-via-then-count-eq0, then-count-eq0-via-else-count-eq0+then-count-gt4}

pub returns-then-count-eq0 : goal.returns-then-count-eq0
unfolding first_refusal
returns-then-count-eq0 c = elim c.then-count-eq0.branch [
  | then-count-eq0-via-then-count-eq0 w ↦ rw (eq-eqb _ _ w.if-count-eq0.true)
  | then-count-eq0-via-else-count-eq0+then-count-gt4 w ↦ rw (ne_eqb _ _ w.if-count-eq0.false, lt-ltb _ _ w.if-count-gt4.true)
]

pub returns-then-any_short : goal.returns-then-any_short
unfolding first_refusal
returns-then-any_short c =
    rw (ne_eqb _ _ c.if-count-eq0.false, le-ltb _ _ c.if-count-gt4.false, sym c.any_short.ensures ∙ c.if-any_short.true)

pub returns-then-points_to_limit-gt16777216 : goal.returns-then-points_to_limit-gt16777216
unfolding first_refusal
returns-then-points_to_limit-gt16777216 c =
    let a = c.args.self in
    rw (ne_eqb _ _ c.if-count-eq0.false, le-ltb _ _ c.if-count-gt4.false, sym c.any_short.ensures ∙ c.if-any_short.false, lt-ltb 16777216 (size (take a.count a.dims)) (omega (arith, c.points_to_limit.ensures, c.if-points_to_limit-gt16777216.true)))

-- all the checks pass
passed : (c : goal.Else-points_to_limit-gt16777216) → first_refusal (shape_checks c.args.self.count c.args.self.dims) ≡ 0
unfolding first_refusal
passed c =
    let a = c.args.self in
    rw (ne_eqb _ _ c.if-count-eq0.false, le-ltb _ _ c.if-count-gt4.false, sym c.any_short.ensures ∙ c.if-any_short.false, le-ltb 16777216 (size (take a.count a.dims)) (omega (arith, c.points_to_limit.ensures, c.if-points_to_limit-gt16777216.false)))

pub invariant_of-result : goal.invariant_of-result
invariant_of-result c = let a = c.args.self in record { usable = usable a.count a.dims (omega (arith, c.well_formed)) (passed c) }

pub returns : goal.returns
returns c = (passed c.before, (refl, refl))
