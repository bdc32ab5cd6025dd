-- Entries of a batch, up to the first that is refused. Assumes nothing.
use mathlib.Core.Path.{◌≡◌, refl, ap, ◌∙◌}
use mathlib.Core.Bool.{Bool, true, false, cond}
use mathlib.Core.List.{List}
use Prim.Native.Nat.{ℕ, zero, suc, ◌+◌, ◌*◌, ◌/◌, ◌^◌, ◌≤◌, ◌<◌}
use native.Mathlib.Nat.{eq-or-lt_of_le, le_of_suc-le-suc, mul-le-mul_right, mul_comm, div-add-mod'}
use mathlib.Core.Logic.{◌⊎◌, inl, inr}
use native.Mathlib.Numerals.{add-one}
use native.Mathlib.Omega.{arith}
use lib.Dec.{eqb}
use lib.ListN.{length}
use lib.Ieee.{Float}
use borrow.Author.Tests.{eq-eqb, ne_eqb, lt-ltb, le-ltb}
use Rattle.shape.specs.Refusal.{refusal_number}
use Rattle.shape.specs.declared.answers.Refusal.{Refusal}
use Rattle.shape.proofs.Accepted.{refusal-suc}
use Rattle.evaluation.specs.Batch.{before, written, Batch}
use Rattle.evaluation.specs.Entries.{Entries}
use Rattle.evaluation.specs.Block.{Block}

-- ---- before the first bad one

module _ (bad : ℕ → Bool) where
  pub before-next : (i : ℕ) → before bad i ≡ i → bad i ≡ false → before bad (i + 1) ≡ i + 1
  unfolding before
  before-next i e h = rw (add-one i) (rw (eq-eqb (before bad i) i e, h))

  pub before-stop : (i : ℕ) → before bad i ≡ i → bad i ≡ true → (n : ℕ) → i < n → before bad n ≡ i
  unfolding before
  before-stop i e h zero k = absurd (omega (arith, k))
  before-stop i e h (suc n) k = go (eq-or-lt_of_le (le_of_suc-le-suc k)) (λ l. before-stop i e h n l)
    where
      go : (i ≡ n) ⊎ (i < n) → (i < n → before bad n ≡ i) → cond (eqb (before bad n) n) (cond (bad n) n (suc n)) (before bad n) ≡ i
      go (inl same) ih = rw (← same) (rw (eq-eqb (before bad i) i e, h))
      go (inr less) ih = let b = ih less in rw (b, ne_eqb i n (λ q. omega arith))

-- an answer of 0
pub none : (b : Bool) → ◌≡◌ {A = ℕ} 0 (cond b 6 0) → b ≡ false
none true e = absurd (omega (arith, e))
none false e = refl

-- ---- the loop over the entries

pub record Running (bad : ℕ → Bool) (step : ℕ → List Float → List Float) (n : ℕ) (out₀ out : List Float) (i : ℕ) : Type 0 where
  pub most : i ≤ n
  pub length-out : length out ≡ length out₀
  pub going : before bad i ≡ i
  pub values : out ≡ written step i out₀

module _ (bad : ℕ → Bool) (step : ℕ → List Float → List Float) (n : ℕ) {out₀ : List Float} where
  pub running-start : Running bad step n out₀ out₀ 0
  unfolding before written
  running-start = record { most = omega arith; length-out = refl; going = refl; values = refl }

  pub running-done : {out : List Float} {i : ℕ} → Running bad step n out₀ out i → n ≤ i → Entries bad step n out₀ 0 out
  running-done {out} {i} w h =
      let all : i ≡ n = omega (arith, w.most) in
      let going = rw all at w.going in
      record { answers = rw (going, le-ltb n n (omega arith)); leaves = rw going (rw all at w.values) }

-- ---- the loop over the blocks

-- steps that do the same to any output
pub written_same : (step step' : ℕ → List Float → List Float) (r : ℕ) (out : List Float) → ((k : ℕ) → k < r → (o : List Float) → step k o ≡ step' k o) → written step r out ≡ written step' r out
unfolding written
written_same step step' zero out same = refl
written_same step step' (suc r) out same = same r (omega arith) _ ∙ ap (step' r) (written_same step step' r out (λ k h. same k (omega arith)))

module _ (bad : ℕ → Bool) (step : ℕ → List Float → List Float) where
  -- entries none of which is bad
  before-block : (i : ℕ) → before bad i ≡ i → (r : ℕ) → ((k : ℕ) → k < r → bad (i + k) ≡ false) → before bad (i + r) ≡ i + r
  before-block i e zero h = let z : i + 0 ≡ i = omega arith in rw z e
  before-block i e (suc r) h =
      let z : i + suc r ≡ i + r + 1 = omega arith in
      rw z (before-next bad (i + r) (before-block i e r (λ k l. h k (omega arith))) (h r (omega arith)))

  -- the entries of a block follow those before it
  written-block : (i r : ℕ) (out : List Float) → written (λ k. step (i + k)) r (written step i out) ≡ written step (i + r) out
  unfolding written
  written-block i zero out = let z : i + 0 ≡ i = omega arith in rw z
  written-block i (suc r) out =
      let z : i + suc r ≡ suc (i + r) = omega arith in
      rw z (ap (step (i + r)) (written-block i r out))

  module _ (n : ℕ) {out₀ out out' : List Float} {i m r : ℕ} (w : Running bad step n out₀ out i) (fits : i + m ≤ n) (b : Block bad step i m out r out') where
    values-after : out' ≡ written step (i + r) out₀
    values-after = b.leaves ∙ ap (written (λ k. step (i + k)) r) w.values ∙ written-block i r out₀

    -- all entries of the block are done
    pub block-next : length out' ≡ length out → m ≤ r → Running bad step n out₀ out' (i + m)
    block-next len all =
        let e : r ≡ m = omega (arith, b.most) in
        record {
          most = fits;
          length-out = len ∙ w.length-out;
          going = rw (← e) (before-block i w.going r b.good);
          values = rw (← e) values-after;
        }

    -- an entry of it is bad
    pub block-stop : r < m → Entries bad step n out₀ 6 out'
    block-stop some =
        let stop = before-stop bad (i + r) (before-block i w.going r b.good) (b.stops some) n (omega arith) in
        record { answers = rw (stop, lt-ltb (i + r) n (omega arith)); leaves = rw stop values-after }

-- ---- a whole batch: refused before its entries, or by them

module _ {lengths : ℕ} {bad : ℕ → Bool} {step : ℕ → List Float → List Float} {n : ℕ} {out : List Float} where
  pub batch-refused : (r : Refusal) → refusal_number r ≡ lengths → Batch lengths bad step n out (refusal_number r) out
  batch-refused r e =
      let some : eqb lengths 0 ≡ false = ne_eqb lengths 0 (λ z. omega (arith, refusal-suc r, e)) in
      record { answers = rw some e; leaves = rw some }

  pub batch-entries : {answer : ℕ} {out' : List Float} → lengths ≡ 0 → Entries bad step n out answer out' → Batch lengths bad step n out answer out'
  batch-entries z w = record { answers = rw z w.answers; leaves = rw z w.leaves }

-- a batch of at most four axes is no longer than memory
pub batch-small : (count n : ℕ) → count ≤ 4 → n * 8 < 2 ^ 63 → count * n < 2 ^ 64
batch-small count n h k = omega (arith, mul-le-mul_right n h)

-- whole queries take no more than the batch
pub whole-batch : (out count : ℕ) → count * (out / count) ≤ out
whole-batch out count = omega (arith, div-add-mod' out count, mul_comm count (out / count))
