-- A map axis by axis: its figures follow from the rows that were worked out. For every format. Assumes nothing.
use mathlib.Core.Path.{◌≡◌, ap, ap₂, ◌∙◌}
use mathlib.Core.Bool.{true, false}
use mathlib.Core.List.{List}
use Prim.Native.Nat.{ℕ, ◌≤◌, ◌<◌}
use lib.ListN.{take}
use lib.Ieee.{Float, Format}
use Rattle.shape.specs.Below.{any_below}
use Rattle.shape.specs.Checks.{Check}
use Rattle.shape.specs.Shape.{stride}
use Rattle.shape.proofs.Below.{any_none, any-ext}
use Rattle.interp_math.specs.Sum.{summed, gradient_part}
use Rattle.evaluation.specs.Axes.{per_axis, zeros, rows, strides, first_over}
use Rattle.evaluation.specs.Granted.{RowsOn}
use Rattle.evaluation.specs.ByAxis.{ByAxis, refuses, first_at, value_at, part_at, spline_of}
use Rattle.evaluation.proofs.Entries.{value-rows, part-rows}
use Rattle.evaluation.proofs.InUse.{per-axis-same, first-same}
use Rattle.evaluation.proofs.Blocks.{slope-sum}

-- ---- the figures of a query, by the strides and the rows that were worked out

module _ (f : Format) (m : ByAxis) (x coefs : List Float) {first : ℕ} (e : first ≡ first_at m x m.count) {ss : List ℕ} (es : ss ≡ strides m.count m.lens) (few : m.count ≤ 4) where
  pub value-is : {ws : List (List Float)} → RowsOn m.count (m.weights x) ws → summed f coefs ss ws m.count first ≡ value_at f m coefs x
  unfolding value_at
  value-is w = rw (e, es) (value-rows f coefs (strides m.count m.lens) m.count (first_at m x m.count) few (m.weights x) w)

  pub part-is : {ws ds : List (List Float)} → RowsOn m.count (m.weights x) ws → RowsOn m.count (m.slopes x) ds → (k : ℕ) → k < m.count
      → gradient_part f coefs ss ws ds m.count first k ≡ part_at f m coefs x k
  unfolding part_at
  part-is w d k h = rw (e, es) (part-rows f coefs (strides m.count m.lens) m.count (first_at m x m.count) few (m.weights x) w (m.slopes x) d k h)

  -- over one axis the slopes stand in the place of the weights
  pub slope-is : {ds : List (List Float)} → m.count ≡ 1 → RowsOn m.count (m.slopes x) ds → summed f coefs ss ds m.count first ≡ part_at f m coefs x 0
  unfolding part_at
  slope-is {ds} one d = rw (e, es) (slope-sum f coefs (strides m.count m.lens) (first_at m x m.count) m.count (m.weights x) (m.slopes x) one d)

-- ---- whether a query is refused

module _ (m : ByAxis) (x : List Float) where
  pub has-place : any_below (m.no_place x) m.count ≡ false → refuses m x ≡ false
  unfolding refuses
  has-place e = e

  pub no_place_lem : any_below (m.no_place x) m.count ≡ true → refuses m x ≡ true
  unfolding refuses
  no_place_lem e = e

  -- none is, where every axis has a place for every query
  pub never-refuses : ((a : ℕ) → a < m.count → m.no_place x a ≡ false) → refuses m x ≡ false
  unfolding refuses
  never-refuses h = any_none (m.no_place x) m.count h

-- ---- maps that agree on the axes in use are the same map

pub record SameAxes (m m' : ByAxis) : Type 0 where
  pub same_count : m.count ≡ m'.count
  pub same-dims : take m.count m.lens ≡ take m'.count m'.lens
  pub same-places : (x : List Float) (a : ℕ) → a < m.count → m.no_place x a ≡ m'.no_place x a
  pub same-origins : (x : List Float) (a : ℕ) → a < m.count → m.origin x a ≡ m'.origin x a
  pub same-weights : (x : List Float) (a : ℕ) → a < m.count → m.weights x a ≡ m'.weights x a
  pub same-slopes : (x : List Float) (a : ℕ) → a < m.count → m.slopes x a ≡ m'.slopes x a

module _ (f : Format) (m m' : ByAxis) (coefs : List Float) (s : SameAxes m m') where
  strides-same : strides m.count m.lens ≡ strides m'.count m'.lens
  strides-same = ap₂ (λ (c : ℕ) (dims : List ℕ). per_axis 0 c (stride dims)) s.same_count s.same-dims

  rows_same : (row row' : ℕ → List Float) → ((a : ℕ) → a < m.count → row a ≡ row' a) → rows m.count row ≡ rows m'.count row'
  rows_same row row' same = per-axis-same zeros m.count row row' same ∙ ap (λ (c : ℕ). rows c row') s.same_count

  module _ (x : List Float) where
    refuses-same : refuses m x ≡ refuses m' x
    unfolding refuses
    refuses-same = any-ext (m.no_place x) (m'.no_place x) m.count (s.same-places x) ∙ ap (any_below (m'.no_place x)) s.same_count

    firsts_same : first_at m x m.count ≡ first_at m' x m'.count
    firsts_same =
        first-same (take m.count m.lens) (m.origin x) (m'.origin x) m.count (s.same-origins x)
        ∙ ap₂ (λ (c : ℕ) (dims : List ℕ). first_over dims (m'.origin x) c) s.same_count s.same-dims

    value_same : value_at f m coefs x ≡ value_at f m' coefs x
    unfolding value_at
    value_same = cc (strides-same, rows_same (m.weights x) (m'.weights x) (s.same-weights x), firsts_same, s.same_count)

    part_same : (k : ℕ) → part_at f m coefs x k ≡ part_at f m' coefs x k
    unfolding part_at
    part_same k = cc (strides-same, rows_same (m.weights x) (m'.weights x) (s.same-weights x), rows_same (m.slopes x) (m'.slopes x) (s.same-slopes x), firsts_same, s.same_count)

  pub spline-same : {checks checks' : List Check} → checks ≡ checks' → spline_of f m checks coefs ≡ spline_of f m' checks' coefs
  spline-same e =
      λ i.
      record {
        axes = s.same_count i;
        checks = e i;
        refuses = λ x. refuses-same x i;
        value = λ x. value_same x i;
        part = λ x k. part_same x k i;
      }
