use Rattle.std.proofs.Common.{◌≡◌, T, pos, sym, ◌∙◌, subst}
use lib.Ieee.{binary64, neg, of_bits}
use lib.IntN.{pred_ℤ}
use Rattle.regular_weights.specs.Place.{loc_of_cell, loc_of}
use Rattle.regular_weights.proofs.Cells.{first-span, inner-span, last-span, past-span}
use Rattle.regular_weights.proofs.Floor.{above_minus_one, below-twice, loc_in, loc-over, loc-low, loc-under}
use Rattle.regular_weights.proofs.place.loc_of.Goals as goal
use Rattle.regular_weights.proofs.place.loc_of.Goals.{After-truncating_f64_to_u64-u}

-- the place by what the cast gives
seen : (c : After-truncating_f64_to_u64-u)
    → loc_of c.args.n c.args.q ≡ loc_of_cell c.args.n (pred_ℤ (pos c.truncating_f64_to_u64-u.result))
unfolding neg of_bits
seen c = rw c.truncating_f64_to_u64-u.ensures (loc_in _ _ c.if-q.true c.if-q-2.true)

pub truncating_f64_to_u64-u-requires-clause-lower_bound : goal.truncating_f64_to_u64-u-requires-clause-lower_bound
unfolding neg of_bits
truncating_f64_to_u64-u-requires-clause-lower_bound c = above_minus_one _ c.if-q.true

pub truncating_f64_to_u64-u-requires-clause-upper_bound : goal.truncating_f64_to_u64-u-requires-clause-upper_bound
unfolding neg of_bits
truncating_f64_to_u64-u-requires-clause-upper_bound c = below-twice _ c.if-q-2.true

pub returns-then-u-eq0 : goal.returns-then-u-eq0
returns-then-u-eq0 c = sym (seen c.before ∙ first-span _ _ c.if-u-eq0.true)

pub returns-then-u-n : goal.returns-then-u-n
returns-then-u-n c =
    sym (seen c.before.before ∙ inner-span _ _ c.requires c.if-u-eq0.false c.if-u-n.true)

pub returns-then-u-n-2 : goal.returns-then-u-n-2
returns-then-u-n-2 c =
    sym (seen c.before.before.before ∙ last-span _ _ c.requires c.if-u-n-2.true)

pub returns-then-q-2 : goal.returns-then-q-2
returns-then-q-2 c =
    sym (seen c.before.before.before ∙ past-span _ _ c.requires c.if-u-n.false c.if-u-n-2.false)

pub returns-then-q : goal.returns-then-q
unfolding of_bits
returns-then-q c = sym (loc-over _ _ c.if-q.true c.if-q-2.false)

pub returns-then-q-3 : goal.returns-then-q-3
unfolding neg of_bits
returns-then-q-3 c = sym (loc-low binary64 _ _ (subst T (sym c.well_formed.1.0.1) tt) c.if-q.false c.if-q-3.true)

pub returns : goal.returns
unfolding neg of_bits
returns c = sym (loc-under _ _ c.if-q.false c.if-q-3.false)
