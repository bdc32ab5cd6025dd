-- A block of queries axis after axis, on either grid: before any axis, and one axis more. Assumes nothing.
use Rattle.std.proofs.Common.{◌≡◌, refl, sym, ap, ◌∙◌, true, false, Bool, ◌||◌, ◌⊎◌, inl, inr, List, [], ℕ, ◌+◌, ◌*◌, ◌≤◌, ◌<◌, length, get_or, take, set, Float, arith, add-one}
use Rattle.std.specs.Float.{nan}
use native.Mathlib.Nat.{eq-or-lt_of_le}
use lib.ListN.{length-set}
use lib.Seq.{get_or-set_same, get_or-set_other}
use Rattle.shape.specs.Below.{any_below}
use Rattle.shape.specs.Checks.{most_points}
use Rattle.shape.proofs.Accepted.{room, points-are}
use Rattle.evaluation.specs.Axes.{query}
use Rattle.evaluation.specs.Axis.{OneAxis, AxisOf}
use Rattle.evaluation.specs.ByAxis.{ByAxis}
use Rattle.evaluation.specs.Granted.{Ready}
use Rattle.evaluation.specs.Stages.{no_spot, Coordinates, Placed, Weighs, Slopes, PlacedTo, RowsTo, LookedTo}
use Rattle.evaluation.specs.declared.stages.Spot.{Spot}
use Rattle.evaluation.proofs.Entries.{query-at, stride-at}
use Rattle.evaluation.proofs.Reach.{first-none, first_next, below-start, below_next, below-small}

-- the coefficients of an axis are few
pub axis-cells : {count : ℕ} {lens ss : List ℕ} (a : ℕ) → Ready count lens ss → a < count → get_or lens a 0 * get_or ss a 0 ≤ most_points
axis-cells {count} {lens} {ss} a r h =
    let u = r.shape in
    rw (stride-at a r h, ← points-are count lens r.four u a h) (room count lens r.four u a h).row_small

-- ---- the rows of a table

pub rows-next : {row : ℕ → List Float} {a : ℕ} {old new : List (List Float)} {r : List Float} → RowsTo row a old → length new ≡ 4 → a < 4 → new ≡ set old a r → r ≡ row a → RowsTo row (a + 1) new
rows-next {row} {a} {old} {new} {r} w four few e same =
    let long : a < length old = omega (arith, sym (length-set old a r) ∙ sym (ap length e) ∙ four) in
    record {
      four = λ h. four;
      at = λ b h. rw e (elim (eq-or-lt_of_le (let q : b ≤ a = omega arith in q)) [
        | inl q ↦ rw q (get_or-set_same old a r [] long ∙ same)
        | inr q ↦ get_or-set_other old a b r [] (λ z. let y : ⊥ = omega arith in y) ∙ w.at b q
      ]);
    }

-- those of a query: the weights on one axis more, and the slopes
module _ {map : ByAxis} {x : List Float} {a : ℕ} {axis : OneAxis} (is : AxisOf map a axis) (few : a < 4) {c : Float} (e : c ≡ get_or x a nan) {old new : Spot} where
  pub weights-next : Weighs axis a c old new → RowsTo (map.weights x) a old.weights → RowsTo (map.weights x) (a + 1) new.weights
  weights-next put w = rows-next w put.four few (ap (λ (s : Spot). s.weights) put.is) (ap axis.weights e ∙ sym (is.weights x))

  pub slopes-next : Slopes axis a c old new → RowsTo (map.slopes x) a old.slopes → RowsTo (map.slopes x) (a + 1) new.slopes
  slopes-next put w = rows-next w put.four few (ap (λ (s : Spot). s.slopes) put.is) (ap axis.slopes e ∙ sym (is.slopes x))

module _ (map : ByAxis) {ss : List ℕ} (ready : Ready map.count map.lens ss) where
  -- ---- one query

  module _ (x : List Float) where
    pub placed-start : PlacedTo map x 0 0
    unfolding any_below
    placed-start = record { placed = refl; found = sym (first-none _ _); inside = below-start map.count map.lens ready.four ready.shape }

    -- the first coefficient is a number that the code can work out
    pub placed-small : {a first : ℕ} → PlacedTo map x a first → first ≤ most_points
    placed-small {a} {first} w = below-small map.count map.lens ready.four ready.shape a first w.inside

    pub placed-next : {a first : ℕ} → PlacedTo map x a first → a < map.count → {axis : OneAxis} → AxisOf map a axis → {c : Float} → get_or x a nan ≡ c → axis.no_place c ≡ false → axis.origin c + 3 < axis.points → {next : ℕ} → next ≡ first + axis.origin c * get_or ss a 0
        → PlacedTo map x (a + 1) next
    unfolding any_below
    placed-next {a} {first} w h {axis} is {c} at placed room {next} e =
        let o : map.origin x a ≡ axis.origin c = is.origin x ∙ ap axis.origin at in
        let s = stride-at a ready h in
        record {
          placed = rw (add-one a, is.no_place x, at, placed) w.placed;
          found = e ∙ first_next (take map.count map.lens) (map.origin x) a w.found (sym o) s;
          inside = rw (e, s) (below_next map.count map.lens ready.four ready.shape a first (axis.origin c) h w.inside (rw is.points at room));
        }

  -- ---- the queries of a block

  module _ (xs : List Float) (n from m : ℕ) where
    abbrev pub asked : ℕ → List Float
    asked k = query map.count xs n (from + k)

    pub looked-start : {Rows : List Float → ℕ → Spot → Type 0} {spots : List Spot} → ((x : List Float) (s : Spot) → Rows x 0 s) → ((k : ℕ) → k < m → (get_or spots k no_spot).first ≡ 0) → LookedTo Rows map xs n from m 0 m spots
    looked-start none zeros =
        record {
          most = omega arith;
          placed = λ k h. rw (zeros k h) (placed-start _);
          rows = λ k h. none _ _;
          refused = λ h. absurd (let q : ⊥ = omega arith in q);
        }

    -- so far the first coefficients are small
    pub looked-small : {Rows : List Float → ℕ → Spot → Type 0} {a good : ℕ} {spots : List Spot} → LookedTo Rows map xs n from m a good spots → (k : ℕ) → k < good → (get_or spots k no_spot).first ≤ most_points
    looked-small w k h = placed-small _ (w.placed k h)

    -- one axis more, by the coordinates on it
    module _ {a good r : ℕ} (h : a < map.count) {axis : OneAxis} (is : AxisOf map a axis) {cs : List Float} (all : Coordinates xs n from a good cs)
        {spots mid : List Spot} (p : Placed axis (get_or ss a 0) cs spots r mid) where
      pub few-left : r ≤ good
      few-left = omega (arith, p.most, all.long)

      coordinate : (k : ℕ) → k < r → get_or cs k nan ≡ get_or (asked k) a nan
      coordinate k l = all.at k (omega (arith, few-left)) ∙ sym (query-at map.count xs n (from + k) a h ready.shape.at-most-four)

      pub looked-next : {Rows : List Float → ℕ → Spot → Type 0} {new : List Spot} → ((k : ℕ) → k < r → (get_or new k no_spot).first ≡ (get_or mid k no_spot).first)
          → ((k : ℕ) → k < r → Rows (asked k) a (get_or spots k no_spot) → Rows (asked k) (a + 1) (get_or new k no_spot)) → LookedTo Rows map xs n from m a good spots → LookedTo Rows map xs n from m (a + 1) r new
      unfolding any_below
      looked-next same next w =
          record {
            most = omega (arith, w.most, few-left);
            placed = λ k l. rw (same k l) (placed-next (asked k) (w.placed k (omega (arith, few-left))) h is (sym (coordinate k l)) (p.moved k l).placed (p.moved k l).room (p.moved k l).moved);
            rows = λ k l. next k l (w.rows k (omega (arith, few-left)));
            refused = λ l. go l (eq-or-lt_of_le few-left);
          }
        where
          or-true : (b : Bool) → b || true ≡ true
          or-true true = refl
          or-true false = refl

          go : r < m → (r ≡ good) ⊎ (r < good) → any_below (map.no_place (asked r)) (a + 1) ≡ true
          go l (inl e) =
              let before : any_below (map.no_place (asked r)) a ≡ true = rw e (w.refused (omega arith)) in
              rw (add-one a, before) (or-true (map.no_place (asked r) a))
          go l (inr q) =
              let c = all.at r q ∙ sym (query-at map.count xs n (from + r) a h ready.shape.at-most-four) in
              rw (add-one a, is.no_place (asked r), ← c, p.stopped (omega (arith, all.long))) refl

      -- the rows, by the coordinates of the queries that are left
      module _ {cs' : List Float} (own : Coordinates xs n from a r cs') where
        same : (k : ℕ) → k < r → get_or cs' k nan ≡ get_or (asked k) a nan
        same k l = own.at k l ∙ sym (query-at map.count xs n (from + k) a h ready.shape.at-most-four)

        pub kept-same : (k : ℕ) → k < r → get_or cs' k nan ≡ get_or cs k nan
        kept-same k l = own.at k l ∙ sym (all.at k (omega (arith, few-left)))

        pub look-next : (Rows : List Float → ℕ → Spot → Type 0) → ((x : List Float) (b : ℕ) (s t : Spot) → t.weights ≡ s.weights → t.slopes ≡ s.slopes → Rows x b s → Rows x b t) → {new : List Spot} → ((k : ℕ) → k < r → (get_or new k no_spot).first ≡ (get_or mid k no_spot).first)
            → ((x : List Float) (k : ℕ) → k < r → get_or cs' k nan ≡ get_or x a nan → Rows x a (get_or mid k no_spot) → Rows x (a + 1) (get_or new k no_spot)) → LookedTo Rows map xs n from m a good spots → LookedTo Rows map xs n from m (a + 1) r new
        look-next Rows tables firsts rows =
            looked-next firsts (λ k l w. rows (asked k) k l (same k l) (tables (asked k) a _ _ (p.moved k l).weights (p.moved k l).slopes w))
