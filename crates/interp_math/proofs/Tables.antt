-- Four sums side by side, and the table of partial sums that gives those over one axis more. Assumes nothing.
use mathlib.Core.Path.{◌≡◌, refl, sym, ap, ◌∙◌}
use mathlib.Core.Logic.{inl, inr, ◌≢◌}
use mathlib.Core.List.{List, []}
use Prim.Native.Nat.{ℕ, zero, suc, ◌+◌, ◌*◌, ◌≤◌, ◌<◌}
use native.Mathlib.Nat.{eq-or-lt_of_le, mul-le-mul_right}
use native.Mathlib.Omega.{arith}
use Rattle.std.proofs.Common.{add-one}
use lib.ListN.{length, get_or, set, length-set}
use lib.Seq.{get_or-set_same, get_or-set_other}
use lib.Ieee.{Float, nan, Format}
use Rattle.interp_math.specs.Sum.{dot4, summed, gradient_part}
use Rattle.interp_math.specs.Table.{lanes, strides_over, rows_of, column, turned, across, sloped, table_of, PartLanes}
use Rattle.interp_math.proofs.Summed.{summed-ext, summed-dots}

-- the neighbours along an axis are at most three strides further
pub near : (stride : ℕ) {p : ℕ} → p < 4 → p * stride ≤ 3 * stride
near stride {p} h = mul-le-mul_right stride (let q : p ≤ 3 = omega arith in q)

-- the strides of the axes before one, and its own, are within all
pub strides-within : (strides : List ℕ) (j : ℕ) → j < 4 → strides_over strides j + get_or strides j 0 ≤ get_or strides 0 0 + get_or strides 1 0 + get_or strides 2 0 + get_or strides 3 0
strides-within strides zero h = omega arith
strides-within strides (suc zero) h = omega arith
strides-within strides (suc (suc zero)) h = omega arith
strides-within strides (suc (suc (suc zero))) h = omega arith
strides-within strides (suc (suc (suc (suc j)))) h = absurd (omega (arith, h))

-- ---- a table of four rows, of which p are there

pub record RowsTo (row : ℕ → List Float) (table : List (List Float)) (p : ℕ) : Type 0 where
  pub most : p ≤ 4
  pub four : length table ≡ 4
  pub at : (k : ℕ) → k < p → get_or table k [] ≡ row k

module _ {row : ℕ → List Float} {table : List (List Float)} where
  pub rows_start : length table ≡ 4 → RowsTo row table 0
  rows_start e = record { most = omega arith; four = e; at = λ k h. absurd (let q : ⊥ = omega arith in q) }

  pub rows_next : {p : ℕ} {x : List Float} → RowsTo row table p → p < 4 → x ≡ row p → RowsTo row (set table p x) (p + 1)
  rows_next {p} {x} w h e =
      record {
        most = omega arith;
        four = length-set table p x ∙ w.four;
        at = λ k l. elim (eq-or-lt_of_le (let q : k ≤ p = omega arith in q)) [
          | inl q ↦ rw q (get_or-set_same table p x [] (omega (arith, w.four)) ∙ e)
          | inr q ↦ get_or-set_other table p k x [] (λ z. let y : ⊥ = omega arith in y) ∙ w.at k q
        ];
      }

  pub rows_as : {row' : ℕ → List Float} {p : ℕ} → RowsTo row table p → ((k : ℕ) → row k ≡ row' k) → RowsTo row' table p
  rows_as w same = record { most = w.most; four = w.four; at = λ k h. w.at k h ∙ same k }

-- four tables, of the first p of which P holds
pub record TablesTo (P : ℕ → List (List Float) → Type 0) (tables : List (List (List Float))) (p : ℕ) : Type 0 where
  pub four : length tables ≡ 4
  pub at : (k : ℕ) → k < p → P k (get_or tables k [])

row_of : (row : ℕ → List Float) (k : ℕ) → k < 4 → get_or (rows_of row) k [] ≡ row k
row_of row zero h = refl
row_of row (suc zero) h = refl
row_of row (suc (suc zero)) h = refl
row_of row (suc (suc (suc zero))) h = refl
row_of row (suc (suc (suc (suc k)))) h = absurd (omega (arith, h))

-- a column by its number
pub turned-at : (table : List (List Float)) (q : ℕ) → q < 4 → column table q ≡ get_or (turned table) q []
turned-at table q h = sym (row_of (column table) q h)

-- all four
pub rows_all : {row : ℕ → List Float} {table : List (List Float)} → table ≡ rows_of row → RowsTo row table 4
rows_all {row} e = record { most = omega arith; four = ap length e; at = λ k h. rw e (row_of row k h) }

-- ---- a table turned round twice: the four-term sums of its rows are as they were

turn-row : (f : Format) (table : List (List Float)) (l : ℕ) (v : List Float) → l < 4 → dot4 f (get_or (turned (turned table)) l []) v ≡ dot4 f (get_or table l []) v
unfolding dot4
turn-row f table zero v h = refl
turn-row f table (suc zero) v h = refl
turn-row f table (suc (suc zero)) v h = refl
turn-row f table (suc (suc (suc zero))) v h = refl
turn-row f table (suc (suc (suc (suc l)))) v h = absurd (omega (arith, h))

-- ---- lanes

-- over no axis they look at no stride and no weight
pub lanes-none : (f : Format) (coefs : List Float) (strides : List ℕ) (weights : List (List Float)) (at : ℕ) → lanes f coefs [] [] 0 at ≡ lanes f coefs strides weights 0 at
unfolding lanes summed
lanes-none f coefs strides weights at = refl

module _ (f : Format) (coefs : List Float) (strides : List ℕ) where
  -- they look at the weights of their own axes alone
  lanes-ext : (ws ws' : List (List Float)) (j at : ℕ) → ((l : ℕ) → l < j → get_or ws l [] ≡ get_or ws' l []) → lanes f coefs strides ws j at ≡ lanes f coefs strides ws' j at
  unfolding lanes
  lanes-ext ws ws' j at same =
      let one : (i : ℕ) → summed f coefs strides ws j i ≡ summed f coefs strides ws' j i = λ i. summed-ext f coefs strides strides ws ws' j i (λ l h. refl) same in
      rw (one at, one (at + 1), one (at + 2), one (at + 3))

  -- those by a table that was turned round are those by the table
  pub lanes-turned : (weights : List (List Float)) {table : List (List Float)} (j at : ℕ) → j ≤ 4 → table ≡ turned weights → lanes f coefs strides (turned table) j at ≡ lanes f coefs strides weights j at
  unfolding lanes
  lanes-turned weights j at few e =
      let one : (i : ℕ) → summed f coefs strides (turned (turned weights)) j i ≡ summed f coefs strides weights j i = λ i. summed-dots f coefs strides (turned (turned weights)) weights j i (λ l v h. turn-row f weights l v (omega arith)) in
      rw (e, one at, one (at + 1), one (at + 2), one (at + 3))

  module _ (weights : List (List Float)) (j at : ℕ) where
    lane-at : (q : ℕ) → q < 4 → get_or (lanes f coefs strides weights j at) q nan ≡ summed f coefs strides weights j (at + q)
    unfolding lanes
    lane-at zero h = let z : at + 0 ≡ at = omega arith in rw z
    lane-at (suc zero) h = refl
    lane-at (suc (suc zero)) h = refl
    lane-at (suc (suc (suc zero))) h = refl
    lane-at (suc (suc (suc (suc q)))) h = absurd (omega (arith, h))

    -- the last axis, of stride 1, makes one sum of them
    pub lanes_end : get_or strides j 0 ≡ 1 → dot4 f (get_or weights j []) (lanes f coefs strides weights j at) ≡ summed f coefs strides weights (suc j) at
    unfolding lanes summed
    lanes_end last = rw last

  -- four rows of lanes along axis j make the lanes over one axis more
  module _ (weights : List (List Float)) (j at : ℕ) {table : List (List Float)} {p : ℕ} (w : RowsTo (λ k. lanes f coefs strides weights j (at + k * get_or strides j 0)) table p) (all : 4 ≤ p) where
    entry : (k q : ℕ) → k < 4 → q < 4 → get_or (get_or table k []) q nan ≡ summed f coefs strides weights j (at + q + k * get_or strides j 0)
    entry k q hk hq =
        let e : at + k * get_or strides j 0 + q ≡ at + q + k * get_or strides j 0 = omega arith in
        ap (λ (r : List Float). get_or r q nan) (w.at k (omega arith)) ∙ lane-at weights j _ q hq ∙ ap (summed f coefs strides weights j) e

    sum : (q : ℕ) → q < 4 → dot4 f (get_or weights j []) (column table q) ≡ summed f coefs strides weights (suc j) (at + q)
    unfolding summed
    sum q hq =
        let z : at + q + 0 * get_or strides j 0 ≡ at + q = omega arith in
        rw (rw z at (entry 0 q (omega arith) hq), entry 1 q (omega arith) hq, entry 2 q (omega arith) hq, entry 3 q (omega arith) hq)

    pub lanes-up : across f (get_or weights j []) table ≡ lanes f coefs strides weights (suc j) at
    unfolding across lanes
    lanes-up =
        let z : at + 0 ≡ at = omega arith in
        rw (rw z at (sum 0 (omega arith)), sum 1 (omega arith), sum 2 (omega arith), sum 3 (omega arith))

  -- ---- of a gradient

  module _ (weights slopes : List (List Float)) where
    own-weights : (k : ℕ) → k < length weights → get_or (sloped weights slopes k) k [] ≡ get_or slopes k []
    own-weights k h = get_or-set_same weights k (get_or slopes k []) [] h

    other-weights : (k l : ℕ) → l ≢ k → get_or (sloped weights slopes k) l [] ≡ get_or weights l []
    other-weights k l h = get_or-set_other weights k l (get_or slopes k []) [] h

    -- over the axes before its own, a part is the value
    lanes-before : (k j at : ℕ) → j ≤ k → lanes f coefs strides (sloped weights slopes k) j at ≡ lanes f coefs strides weights j at
    lanes-before k j at h = lanes-ext (sloped weights slopes k) weights j at (λ l g. other-weights k l (λ z. let y : ⊥ = omega arith in y))

    -- the row behind the parts is the value's
    pub value_row : {rows : List (List Float)} (j at : ℕ) → PartLanes f coefs strides weights slopes j at rows → get_or rows j [] ≡ lanes f coefs strides weights j at
    value_row j at w = w.each j (omega arith) ∙ lanes-before j j at (omega arith)

    -- four of them along axis j: a part of an axis before it, its own, and the value, which is what the next part is so far
    module _ (j at : ℕ) {table : List (List Float)} {p : ℕ} where
      pub part_up : (k : ℕ) → k < j → RowsTo (λ i. lanes f coefs strides (sloped weights slopes k) j (at + i * get_or strides j 0)) table p → 4 ≤ p
          → across f (get_or weights j []) table ≡ lanes f coefs strides (sloped weights slopes k) (suc j) at
      part_up k h w all = rw (other-weights k j (λ z. let y : ⊥ = omega arith in y)) at (lanes-up (sloped weights slopes k) j at w all)

      pub own-up : j < length weights → RowsTo (λ i. lanes f coefs strides weights j (at + i * get_or strides j 0)) table p → 4 ≤ p
          → across f (get_or slopes j []) table ≡ lanes f coefs strides (sloped weights slopes j) (suc j) at
      own-up h w all =
          rw (own-weights j h) at
          (lanes-up (sloped weights slopes j) j at (rows_as w (λ i. sym (lanes-before j j (at + i * get_or strides j 0) (omega arith)))) all)

      pub value-up : RowsTo (λ i. lanes f coefs strides weights j (at + i * get_or strides j 0)) table p → 4 ≤ p
          → across f (get_or weights j []) table ≡ lanes f coefs strides (sloped weights slopes (suc j)) (suc j) at
      value-up w all = lanes-up weights j at w all ∙ sym (lanes-before (suc j) (suc j) at (omega arith))

    -- all of them
    module _ (j at : ℕ) {tables : List (List (List Float))} {n : ℕ} (w : TablesTo (λ p rows. PartLanes f coefs strides weights slopes j (at + p * get_or strides j 0) rows) tables n) (all : 4 ≤ n) where
      table-rows : (k : ℕ) → k ≤ j → RowsTo (λ p. lanes f coefs strides (sloped weights slopes k) j (at + p * get_or strides j 0)) (table_of tables k) 4
      table-rows k h = record { most = omega arith; four = refl; at = λ p l. row_of (λ p. get_or (get_or tables p []) k []) p l ∙ (w.at p (omega arith)).each k h }

      table-value : RowsTo (λ p. lanes f coefs strides weights j (at + p * get_or strides j 0)) (table_of tables j) 4
      table-value = record { most = omega arith; four = refl; at = λ p l. row_of (λ p. get_or (get_or tables p []) j []) p l ∙ value_row j _ (w.at p (omega arith)) }

      pub parts-next : {rows : List (List Float)} → j < length weights → ((k : ℕ) → k < j → get_or rows k [] ≡ across f (get_or weights j []) (table_of tables k)) → get_or rows j [] ≡ across f (get_or slopes j []) (table_of tables j)
          → get_or rows (j + 1) [] ≡ across f (get_or weights j []) (table_of tables j) → PartLanes f coefs strides weights slopes (suc j) at rows
      parts-next few earlier own value = record {
        each = λ k h. elim (eq-or-lt_of_le h) [
          | inl q ↦ rw q ((rw (add-one j) at value) ∙ value-up j at table-value (omega arith))
          | inr l ↦ elim (eq-or-lt_of_le (let q : k ≤ j = omega arith in q)) [
            | inl q ↦ rw q (own ∙ own-up j at few table-value (omega arith))
            | inr m ↦ earlier k m ∙ part_up j at k m (table-rows k (omega arith)) (omega arith)
          ]
        ];
      }

    -- the last axis, of stride 1
    pub part_end : (k j at : ℕ) → k < j → get_or strides j 0 ≡ 1
        → dot4 f (get_or weights j []) (lanes f coefs strides (sloped weights slopes k) j at) ≡ gradient_part f coefs strides weights slopes (suc j) at k
    unfolding gradient_part
    part_end k j at h last = rw (other-weights k j (λ z. let y : ⊥ = omega arith in y)) at (lanes_end (sloped weights slopes k) j at last)

    pub own-end : (j at : ℕ) → j < length weights → get_or strides j 0 ≡ 1
        → dot4 f (get_or slopes j []) (lanes f coefs strides (sloped weights slopes j) j at) ≡ gradient_part f coefs strides weights slopes (suc j) at j
    unfolding gradient_part
    own-end j at h last = rw (own-weights j h) at (lanes_end (sloped weights slopes j) j at last)
