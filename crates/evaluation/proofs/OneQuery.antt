-- A single query, axis after axis, on either grid: before any axis, one axis more, and what it answers once all are done. For every
-- format. Assumes nothing.
use Rattle.std.proofs.Common.{◌≡◌, refl, sym, ap, subst, ◌∙◌, true, inl, inr, List, [], ◌∷◌, ◌++◌, ℕ, ◌+◌, ◌*◌, ◌-◌, ◌≤◌, ◌<◌, length, get_or, take, Float, arith}
use Rattle.std.specs.Float.{Format, nan}
use native.Mathlib.Nat.{eq-or-lt_of_le, mul-one}
use lib.ListN.{length-append, get_or-append}
use lib.Seq.{get_or_at}
use Rattle.shape.specs.Checks.{Check, most_points}
use Rattle.shape.specs.Shape.{size}
use Rattle.shape.proofs.Below.{any_at}
use Rattle.interp_math.specs.Sum.{summed}
use Rattle.multibspline.specs.Numbers.{f0}
use Rattle.evaluation.specs.Axes.{query}
use Rattle.evaluation.specs.Axis.{OneAxis, AxisOf, FoundAt}
use Rattle.evaluation.specs.Block.{reach}
use Rattle.evaluation.specs.ByAxis.{ByAxis, spline_of}
use Rattle.evaluation.specs.Entries.{Answered}
use Rattle.evaluation.specs.Granted.{Ready, RowsOn}
use Rattle.evaluation.specs.OneQuery.{SoFar}
use Rattle.evaluation.specs.Stages.{PlacedTo}
use Rattle.evaluation.proofs.ByAxis.{value-is, has-place, no_place_lem}
use Rattle.evaluation.proofs.Entries.{query-at, last-stride, within_by}
use Rattle.evaluation.proofs.Looking.{placed-start, placed-small, placed-next}
use Rattle.evaluation.proofs.Outcomes.{value_found, value-refused}
use Rattle.evaluation.proofs.Reach.{below-reaches}

module _ (m : ByAxis) {ss : List ℕ} (ready : Ready m.count m.lens ss) (xs : List Float) where
  abbrev pub one : List Float
  one = query m.count xs 1 0

  pub one-start : SoFar m one 0 0 []
  one-start = record { placed = placed-start m ready one; each = refl; weighed = λ b h. absurd (let q : ⊥ = omega arith in q) }

  module _ {a first : ℕ} {rows : List (List Float)} (w : SoFar m one a first rows) (h : a < m.count) {axis : OneAxis} (is : AxisOf m a axis) where
    coordinate : get_or one a nan ≡ get_or xs a nan
    coordinate = let e : a * 1 + 0 ≡ a = omega arith in query-at m.count xs 1 0 a h ready.shape.at-most-four ∙ ap (λ (i : ℕ). get_or xs i nan) e

    -- an axis without a place refuses the query
    pub one-refused : axis.no_place (get_or xs a nan) ≡ true → (f : Format) (checks : List Check) (coefs : List Float) → Answered (spline_of f m checks coefs) one 6 f0
    one-refused none f checks coefs =
        value-refused (spline_of f m checks coefs) one (no_place_lem m one (any_at (m.no_place one) m.count a h (is.no_place one ∙ ap axis.no_place coordinate ∙ none)))

    module _ {origin : ℕ} (found : FoundAt axis (get_or xs a nan) origin) {row : List Float} (er : row ≡ axis.weights (get_or xs a nan)) where
      -- one axis more
      pub one-next : {next : ℕ} → next ≡ first + origin * get_or ss a 0 → SoFar m one (a + 1) next (rows ++ row ∷ [])
      one-next {next} e =
          record {
            placed = placed-next m ready one w.placed h is coordinate found.placed (rw found.is at found.room) (rw found.is at e);
            each = length-append rows (row ∷ []) ∙ rw w.each refl;
            weighed = λ b l. elim (eq-or-lt_of_le (let q : b ≤ a = omega arith in q)) [
              | inl q ↦ rw q (get_or_at rows row [] [] a w.each ∙ er ∙ ap axis.weights (sym coordinate) ∙ sym (is.weights one))
              | inr q ↦ get_or-append rows (row ∷ []) [] b (omega (arith, w.each)) ∙ w.weighed b q
            ];
          }

      -- the sum so far is a number that the code can work out
      pub one-small : first + origin * get_or ss a 0 ≤ most_points
      one-small = placed-small m ready one (one-next refl).placed

      -- the last axis has stride 1; all coefficients that count are there, and the value is their sum
      module _ (last : m.count ≡ a + 1) {next : ℕ} (e : next ≡ first + origin) where
        pub by_one : get_or ss (m.count - 1) 0 ≡ 1
        by_one = last-stride ready

        own : get_or ss a 0 ≡ 1
        own = let q : m.count - 1 ≡ a = omega arith in rw q at by_one

        ended : SoFar m one (a + 1) next (rows ++ row ∷ [])
        ended = one-next (rw own (e ∙ rw (mul-one origin)))

        done : PlacedTo m one m.count next
        done = subst (λ (n : ℕ). PlacedTo m one n next) (sym last) ended.placed

        pub one-reaches : {coefs : ℕ} → coefs ≡ size (take m.count m.lens) → next + reach ss < coefs
        one-reaches {coefs} sized = within_by ready.strides-are ready.shape.at-most-four (below-reaches m.count m.lens ready.four ready.shape next coefs done.inside sized)

        pub one_value : (f : Format) (checks : List Check) (coefs : List Float) (rest : List (List Float)) → length ((rows ++ row ∷ []) ++ rest) ≡ 4 → {v : Float} → v ≡ summed f coefs ss ((rows ++ row ∷ []) ++ rest) m.count next → Answered (spline_of f m checks coefs) one 0 v
        one_value f checks coefs rest four ev =
            let all : RowsOn m.count (m.weights one) ((rows ++ row ∷ []) ++ rest) = record { four = four; at = λ b l. get_or-append (rows ++ row ∷ []) rest [] b (omega (arith, ended.each)) ∙ ended.weighed b (omega arith) } in
            value_found (spline_of f m checks coefs) one (has-place m one done.placed) (ev ∙ value-is f m one coefs done.found ready.strides-are ready.shape.at-most-four all)
