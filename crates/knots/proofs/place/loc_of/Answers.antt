use borrow.Author.Tests.{eq-eqb, ne_eqb}
use Rattle.knots.specs.Place.{loc_of}
use Rattle.knots.proofs.place.loc_of.Goals as goal

pub returns-then-c-eq0 : goal.returns-then-c-eq0
unfolding loc_of
returns-then-c-eq0 c = rw (eq-eqb _ _ c.if-c-eq0.true)

pub returns-then-c-eq1 : goal.returns-then-c-eq1
unfolding loc_of
returns-then-c-eq1 c = rw (ne_eqb _ _ c.if-c-eq0.false, eq-eqb _ _ c.if-c-eq1.true)

pub returns-then-c-n : goal.returns-then-c-n
unfolding loc_of
returns-then-c-n c = rw (ne_eqb _ _ c.if-c-eq0.false, ne_eqb _ _ c.if-c-eq1.false, eq-eqb _ _ c.if-c-n.true)

pub returns-then-c-n-2 : goal.returns-then-c-n-2
unfolding loc_of
returns-then-c-n-2 c =
    rw (ne_eqb _ _ c.if-c-eq0.false, ne_eqb _ _ c.if-c-eq1.false, ne_eqb _ _ c.if-c-n.false, eq-eqb _ _ c.if-c-n-2.true)

pub returns : goal.returns
unfolding loc_of
returns c =
    rw (ne_eqb _ _ c.if-c-eq0.false, ne_eqb _ _ c.if-c-eq1.false, ne_eqb _ _ c.if-c-n.false, ne_eqb _ _ c.if-c-n-2.false)
