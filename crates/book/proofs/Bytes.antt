-- The ledger: what the tests on a line's bytes say, and the ledger with 1 added along a line. Assumes nothing.
use mathlib.Core.Path.{◌≡◌, refl, sym, ap, ◌∙◌}
use mathlib.Core.Logic.{◌≢◌}
use mathlib.Core.Bool.{Bool, true, false, cond, not}
use mathlib.Core.List.{List, [], ◌∷◌}
use Prim.Native.Nat.{ℕ, zero, suc, ◌+◌, ◌-◌, ◌*◌, ◌<◌}
use native.Mathlib.Nat.{not-suc-le-zero, le_of_suc-le-suc}
use native.Mathlib.Omega.{arith}
use lib.ListN.{length, get_or, set, replicate}
use lib.Dec.{ltb}
use borrow.Author.Tests.{ltb-true, ltb-false, lt-ltb, le-ltb, not-false}
use Rattle.shape.specs.Shape.{size, points, NotEmpty, stride, lines, is_line, first, cell_at, line_at, place_at}
use Rattle.shape.specs.Cells.{on_line, line, write_line}
use Rattle.shape.specs.Checks.{first_refusal}
use Rattle.shape.proofs.Cells.{length-put, line-apart, line-in, line-out}
use Rattle.shape.proofs.Radix.{stride-pos, line_at-cell_at, cell_at-line_at, place_at-lt, cell_at-lt}
use Rattle.shape.specs.Below.{any_below}
use Rattle.book.specs.LineCall.{byte_above, byte_below, one_more, bumped}
use Rattle.book.specs.Due.{DueBytesMeans}
use Rattle.book.specs.Order.{sum}
use Rattle.shape.proofs.Below.{and_both, any_none, none-at}

-- neither is found: each byte is a
pub bytes-are : (a base stride n : ℕ) (ledger : List ℕ) → any_below (byte_above a base stride ledger) n ≡ false → any_below (byte_below a base stride ledger) n ≡ false
    → (i : ℕ) → i < n → line 0 base stride ledger i ≡ a
bytes-are a base stride n ledger p q i h =
    let most : byte_above a base stride ledger i ≡ false = none-at (byte_above a base stride ledger) n p i h in
    let least : byte_below a base stride ledger i ≡ false = none-at (byte_below a base stride ledger) n q i h in
    omega (arith, ltb-false)

-- ---- a line is due to a call: each of its bytes is its axis's number

-- there is such an axis and such a line
pub is-line : (dims : List ℕ) (a l : ℕ) → not (is_line dims a l) ≡ false → (a < length dims) × (l < lines dims a)
is-line dims a l e =
    let both = and_both (ltb a (length dims)) (ltb l (lines dims a)) (not-false (is_line dims a l) e) in
    (ltb-true a (length dims) both.0, ltb-true l (lines dims a) both.1)

-- three checks that pass
pub three-passed : (x y z : Bool) → ◌≡◌ {A = ℕ} (cond x 7 (cond y 8 (cond z 9 0))) 0 → (x ≡ false) × (y ≡ false) × (z ≡ false)
three-passed true y z e = absurd (omega (arith, e))
three-passed false true z e = absurd (omega (arith, e))
three-passed false false true e = absurd (omega (arith, e))
three-passed false false false e = (refl, refl, refl)

pub due-bytes : DueBytesMeans
unfolding first_refusal
due-bytes dims a l ledger = (
  (λ e.
      let t = three-passed (not (is_line dims a l)) (any_below (byte_above a (first dims a l) (stride dims a) ledger) (points dims a))
      (any_below (byte_below a (first dims a l) (stride dims a) ledger) (points dims a)) e in
      let r = is-line dims a l t.0 in
      record { is-axis = r.0; is-line = r.1; each = bytes-are a (first dims a l) (stride dims a) (points dims a) ledger t.1 t.2 }),
  (λ d.
      rw (
        lt-ltb a (length dims) d.is-axis,
        lt-ltb l (lines dims a) d.is-line,
        any_none (byte_above a (first dims a l) (stride dims a) ledger) (points dims a) (λ i h. le-ltb a _ (omega (arith, d.each i h))),
        any_none (byte_below a (first dims a l) (stride dims a) ledger) (points dims a) (λ i h. le-ltb _ a (omega (arith, d.each i h))),
      )),
)

-- ---- what 1 added along a line leaves

-- from the numbers that the code works out
pub bumped-line : (dims : List ℕ) (a l : ℕ) (ledger : List ℕ) (base s n : ℕ) → base ≡ first dims a l → s ≡ stride dims a → n ≡ points dims a
    → write_line base s (one_more base s ledger) n ledger ≡ bumped dims a l ledger
unfolding bumped
bumped-line dims a l ledger base s n e₁ e₂ e₃ = rw (e₁, e₂, e₃)

pub length-bumped : (dims : List ℕ) (a l : ℕ) (ledger : List ℕ) → length (bumped dims a l ledger) ≡ length ledger
unfolding bumped
length-bumped dims a l ledger = length-put _ _ (points dims a) ledger

module _ (dims : List ℕ) (ne : NotEmpty dims) (a l : ℕ) (ledger : List ℕ) where
  pub bumped-off : (c : ℕ) → line_at dims a c ≢ l → get_or (bumped dims a l ledger) c 0 ≡ get_or ledger c 0
  unfolding bumped
  bumped-off c h =
      line-out (first dims a l) (stride dims a) (one_more (first dims a l) (stride dims a) ledger) (points dims a) ledger 0 c
      (λ k hk e. h (ap (line_at dims a) e ∙ line_at-cell_at dims ne a l k hk))

  module _ (ha : a < length dims) (hl : l < lines dims a) (len : length ledger ≡ size dims) where
    pub bumped-on : (c : ℕ) → line_at dims a c ≡ l → get_or (bumped dims a l ledger) c 0 ≡ get_or ledger c 0 + 1
    unfolding bumped
    bumped-on c e =
        let back : cell_at dims a l (place_at dims a c) ≡ c = rw e at (cell_at-line_at dims ne a c) in
        let some : 0 < points dims a = ne a ha in
        let at : get_or (bumped dims a l ledger) (cell_at dims a l (place_at dims a c)) 0 ≡ get_or ledger (cell_at dims a l (place_at dims a c)) 0 + 1 =
        line-in (first dims a l) (stride dims a) (one_more (first dims a l) (stride dims a) ledger) (points dims a) ledger 0 (place_at dims a c)
        (stride-pos dims ne a) (place_at-lt dims ne a ha c) (rw len (cell_at-lt dims ne a ha l (points dims a - 1) hl (omega arith))) in
        rw back at at

-- ---- the sum of the bytes

pub sum_zeros : (n : ℕ) → sum (replicate n 0) ≡ 0
unfolding sum
sum_zeros zero = refl
sum_zeros (suc n) = omega (arith, sum_zeros n)

pub sum-set : (xs : List ℕ) (i v : ℕ) → i < length xs → sum (set xs i v) + get_or xs i 0 ≡ sum xs + v
unfolding sum
sum-set [] i v h = absurd (not-suc-le-zero h)
sum-set (x ∷ xs) zero v h = omega arith
sum-set (x ∷ xs) (suc i) v h = omega (arith, sum-set xs i v (le_of_suc-le-suc h))

sum-line : (base stride : ℕ) (ledger : List ℕ) → 0 < stride → (n : ℕ) → ((i : ℕ) → i < n → base + i * stride < length ledger)
    → sum (write_line base stride (one_more base stride ledger) n ledger) ≡ sum ledger + n
sum-line base stride ledger pos zero fits = omega arith
sum-line base stride ledger pos (suc n) fits =
    let xs : List ℕ = write_line base stride (one_more base stride ledger) n ledger in
    let left : get_or xs (base + n * stride) 0 ≡ get_or ledger (base + n * stride) 0 =
    line-out base stride (one_more base stride ledger) n ledger 0 (base + n * stride) (λ k h e. line-apart base stride k n pos h (sym e)) in
    let inside : base + n * stride < length xs = rw (length-put (on_line base stride) (one_more base stride ledger) n ledger) (fits n (omega arith)) in
    omega (arith, sum-set xs (base + n * stride) (get_or ledger (base + n * stride) 0 + 1) inside, left, sum-line base stride ledger pos n (λ i h. fits i (omega arith)))

pub sum-bumped : (dims : List ℕ) → NotEmpty dims → (a l : ℕ) (ledger : List ℕ) → a < length dims → l < lines dims a → length ledger ≡ size dims
    → sum (bumped dims a l ledger) ≡ sum ledger + points dims a
unfolding bumped
sum-bumped dims ne a l ledger ha hl len =
    sum-line (first dims a l) (stride dims a) ledger (stride-pos dims ne a) (points dims a) (λ i h. rw len (cell_at-lt dims ne a ha l i hl h))
