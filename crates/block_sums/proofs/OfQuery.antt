-- The value and the gradient of a query, by the sums over the axes before the last, axis j. Assumes nothing.
use Rattle.std.proofs.Common.{◌≡◌, ◌∙◌, arith, List, [], ℕ, suc, ◌-◌, ◌≤◌, ◌<◌, length, get_or, set, get_or-set_same, get_or-set_other, inl, inr, Float}
use native.Mathlib.Nat.{eq-or-lt_of_le}
use Rattle.std.specs.Float.{Format, nan}
use Rattle.interp_math.specs.Sum.{dot4, summed, gradient_part}
use Rattle.interp_math.specs.Table.{lanes, turned, PartLanes}
use Rattle.interp_math.proofs.Tables.{lanes_end, lanes-turned, part_end, own-end}
use Rattle.block_sums.specs.Sums.{Summable}

module _ {coefs : List Float} {strides : List ℕ} {j first : ℕ} (w : Summable (suc j) strides coefs first) where
  pub last-one : get_or strides j 0 ≡ 1
  last-one = let e : suc j - 1 ≡ j = omega arith in rw e at w.last

module _ (f : Format) (coefs : List Float) (strides : List ℕ) (j first : ℕ) (w : Summable (suc j) strides coefs first) (weights : List (List Float)) where
  pub value-end : {table : List (List Float)} {sums : List Float} → table ≡ turned weights → sums ≡ lanes f coefs strides (turned table) j first → dot4 f (get_or weights j []) sums ≡ summed f coefs strides weights (suc j) first
  value-end et e = rw (e ∙ lanes-turned f coefs strides weights j first (omega (arith, w.few)) et) (lanes_end f coefs strides weights j first (last-one w))

  -- the parts of the axes before the last, and of the last
  module _ (slopes : List (List Float)) {rows : List (List Float)} (p : PartLanes f coefs strides weights slopes j first rows) where
    pub part-is : (k : ℕ) → k < j → dot4 f (get_or weights j []) (get_or rows k []) ≡ gradient_part f coefs strides weights slopes (suc j) first k
    part-is k h = rw (p.each k (omega arith)) (part_end f coefs strides weights slopes k j first h (last-one w))

    pub own-is : j < length weights → dot4 f (get_or slopes j []) (get_or rows j []) ≡ gradient_part f coefs strides weights slopes (suc j) first j
    own-is h = rw (p.each j (omega arith)) (own-end f coefs strides weights slopes j first h (last-one w))

    -- all of them, the last axis's written last
    pub parts-are : (parts : List Float) {own : Float} → length parts ≡ 4 → j < length weights → ((k : ℕ) → k < j → get_or parts k nan ≡ dot4 f (get_or weights j []) (get_or rows k [])) → own ≡ dot4 f (get_or slopes j []) (get_or rows j [])
        → (k : ℕ) → k < suc j → get_or (set parts j own) k nan ≡ gradient_part f coefs strides weights slopes (suc j) first k
    parts-are parts {own} four long earlier is k h = elim (eq-or-lt_of_le (let q : k ≤ j = omega arith in q)) [
      | inl q ↦ rw q (get_or-set_same parts j own nan (omega (arith, four, w.few)) ∙ is ∙ own-is long)
      | inr q ↦ get_or-set_other parts j k own nan (λ z. let y : ⊥ = omega arith in y) ∙ earlier k q ∙ part-is k q
    ]
