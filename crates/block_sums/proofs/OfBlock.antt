-- What a block answers, by the queries that have been looked at and the sums. For every format. Assumes nothing.
use Rattle.std.proofs.Common.{◌≡◌, refl, sym, ◌∙◌, ◌⊎◌, inl, inr, List, ℕ, ◌+◌, ◌≤◌, ◌<◌, length, get_or, take, Float, arith}
use Rattle.std.specs.Float.{Format}
use native.Mathlib.Nat.{eq-or-lt_of_le}
use lib.ListN.{length-take}
use lib.Seq.{get_or-take}
use Rattle.shape.specs.Checks.{Check}
use Rattle.shape.specs.Shape.{size}
use Rattle.interp_math.specs.Sum.{gradient_part}
use Rattle.evaluation.specs.Axes.{query}
use Rattle.evaluation.specs.Batch.{written, bad_at, value_step, gradient_step}
use Rattle.evaluation.specs.Block.{Block}
use Rattle.evaluation.specs.ByAxis.{ByAxis, part_at, spline_of}
use Rattle.evaluation.specs.Granted.{Ready, RowsOn}
use Rattle.evaluation.specs.Stages.{no_spot, PlacedTo, LookedTo, RowsTo, Weighed, Sloped}
use Rattle.evaluation.specs.declared.stages.Spot.{Spot}
use Rattle.evaluation.proofs.Entries.{last-stride, within_by}
use Rattle.evaluation.proofs.Reach.{below-reaches}
use Rattle.evaluation.proofs.ByAxis.{value-is, part-is, slope-is, has-place, no_place_lem}
use Rattle.evaluation.proofs.Blocks.{slope-alone}
use Rattle.evaluation.proofs.Outcomes.{values-written, gradients-written}
use Rattle.block_sums.specs.Sums.{Summable, value_of, part_of, values_put, gradients_put}

rows-on : {row : ℕ → List Float} {count : ℕ} {table : List (List Float)} → 0 < count → RowsTo row count table → RowsOn count row table
rows-on some w = record { four = w.four some; at = w.at }

module _ (map : ByAxis) {ss : List ℕ} (ready : Ready map.count map.lens ss) (coefs : List Float) (sized : length coefs ≡ size (take map.count map.lens)) where
  -- the coefficients that count are there
  pub summable : {x : List Float} {first : ℕ} → PlacedTo map x map.count first → Summable map.count ss coefs first
  summable w =
      record {
        some = ready.shape.some-axis;
        few = ready.shape.at-most-four;
        last = last-stride ready;
        within = within_by ready.strides-are ready.shape.at-most-four (below-reaches map.count map.lens ready.four ready.shape _ (length coefs) w.inside sized);
      }

module _ (map : ByAxis) {ss : List ℕ} (ready : Ready map.count map.lens ss) (coefs xs : List Float) (n from : ℕ) where
  abbrev asked : ℕ → List Float
  asked k = query map.count xs n (from + k)

  module _ (f : Format) (checks : List Check) (spots : List Spot) (out : List Float) {out' : List Float} where
    pub values-are : ((k : ℕ) → k < length spots → PlacedTo map (asked k) map.count (get_or spots k no_spot).first × Weighed map (asked k) map.count (get_or spots k no_spot))
        → out' ≡ values_put f coefs ss map.count spots from (length spots) out → out' ≡ written (λ k. value_step (spline_of f map checks coefs) xs n (from + k)) (length spots) out
    values-are looked e =
        values-written (spline_of f map checks coefs) xs n from (length spots) out (value_of f coefs ss map.count spots)
        (λ k h. value-is f map _ coefs (looked k h).0.found ready.strides-are ready.shape.at-most-four (rows-on ready.shape.some-axis (looked k h).1)) e

    -- over one axis the slopes alone; over more the weights besides
    pub gradients-are : ((k : ℕ) → k < length spots → PlacedTo map (asked k) map.count (get_or spots k no_spot).first × Sloped map (asked k) map.count (get_or spots k no_spot)) → ((k : ℕ) → k < length spots → length (get_or spots k no_spot).weights ≡ 4)
        → out' ≡ gradients_put f coefs ss map.count spots n from (length spots) out → out' ≡ written (λ k. gradient_step (spline_of f map checks coefs) xs n (from + k)) (length spots) out
    gradients-are looked four e =
        gradients-written (spline_of f map checks coefs) xs n from (length spots) out (part_of f coefs ss map.count spots)
        (λ k j h l. one k j h l (looked k h).1 (eq-or-lt_of_le ready.shape.some-axis)) e
      where
        one : (k j : ℕ) → k < length spots → j < map.count → Sloped map (asked k) map.count (get_or spots k no_spot) → (1 ≡ map.count) ⊎ (1 < map.count)
            → (let s = get_or spots k no_spot in gradient_part f coefs ss s.weights s.slopes map.count s.first j ≡ part_at f map coefs (asked k) j)
        one k j h l r (inl alone) =
            let s = get_or spots k no_spot in
            let long : 0 < length s.weights = omega (arith, four k h) in
            let z : j ≡ 0 = omega arith in
            let whole = slope-is f map (asked k) coefs (looked k h).0.found ready.strides-are ready.shape.at-most-four (sym alone) (rows-on ready.shape.some-axis r.0) in
            rw (z, ← alone) (sym (slope-alone f coefs ss s.weights s.slopes s.slopes s.first long refl) ∙ rw (← alone) at whole)
        one k j h l r (inr more) =
            part-is f map (asked k) coefs (looked k h).0.found ready.strides-are ready.shape.at-most-four (rows-on ready.shape.some-axis (r.1 more)) (rows-on ready.shape.some-axis r.0) j l

-- ---- the queries up to the first that is refused

module _ {map : ByAxis} {xs : List Float} {n from m : ℕ} {Rows : List Float → ℕ → Spot → Type 0} {good : ℕ} {spots : List Spot} (w : LookedTo Rows map xs n from m map.count good spots) (long : good ≤ length spots) where
  as-many : length (take good spots) ≡ good
  as-many = omega (arith, length-take good spots)

  pub looked-good : (k : ℕ) → k < length (take good spots) → PlacedTo map (query map.count xs n (from + k)) map.count (get_or (take good spots) k no_spot).first × Rows (query map.count xs n (from + k)) map.count (get_or (take good spots) k no_spot)
  looked-good k h = let here : k < good = omega (arith, as-many) in rw (get_or-take good spots k no_spot here) (w.placed k here, w.rows k here)

  pub block-is : (f : Format) (checks : List Check) (coefs : List Float) {step : ℕ → List Float → List Float} {out out' : List Float} → out' ≡ written (λ k. step (from + k)) (length (take good spots)) out → Block (bad_at (spline_of f map checks coefs) xs n) step from m out good out'
  unfolding bad_at
  block-is f checks coefs e =
      record {
        most = w.most;
        good = λ k h. has-place map _ (w.placed k h).placed;
        stops = λ h. no_place_lem map _ (w.refused h);
        leaves = rw as-many at e;
      }
