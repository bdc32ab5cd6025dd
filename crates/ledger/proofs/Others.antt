-- A search along a line for a byte that is not a, and for one above it, by what the library says of `all` and `any` over the
-- entries; and what it says of bytes above a and below it. Assumes nothing.
use Rattle.std.specs.List.{AllWithin, HoldsAt, range_with_len}
use Rattle.std.proofs.lemmas.List.FromFn.{length-range_with_len, get_or-range_with_len}
use mathlib.Core.Path.{◌≡◌}
use mathlib.Core.Bool.{true, false}
use mathlib.Core.List.{List}
use Prim.Native.Nat.{ℕ, ◌≤◌, ◌<◌}
use native.Mathlib.Omega.{arith}
use lib.ListN.{length, get_or}
use borrow.Author.Tests.{le-ltb, lt-ltb}
use Rattle.shape.specs.Cells.{line}
use Rattle.shape.specs.Below.{any_below}
use Rattle.shape.proofs.Below.{any_at, any_none}
use Rattle.book.specs.LineCall.{byte_above, byte_below}

-- ---- an answer over the entries below n: it is so of each of them, or of one

module _ (So : ℕ → Type 0) (n : ℕ) where
  pub each-entry : AllWithin So (range_with_len 0 n) 0 (length (range_with_len 0 n)) → (i : ℕ) → i < n → So i
  each-entry w i h =
      let g : get_or (range_with_len 0 n) i 0 ≡ i = omega (arith, get_or-range_with_len 0 n i 0 h) in
      rw g at (w i 0 (omega arith) (omega (arith, length-range_with_len 0 n)))

  pub one-entry : (k : ℕ) × (k < length (range_with_len 0 n)) × HoldsAt So (range_with_len 0 n) k → (i : ℕ) × (i < n) × So i
  one-entry w =
      let h : w.0 < n = omega (arith, w.1, length-range_with_len 0 n) in
      let g : get_or (range_with_len 0 n) w.0 0 ≡ w.0 = omega (arith, get_or-range_with_len 0 n w.0 0 h) in
      (w.0, h, rw g at (w.2 0))

-- ---- bytes above a and below it

module _ (a base stride n : ℕ) (ledger : List ℕ) where
  pub none_above : ((i : ℕ) → i < n → line 0 base stride ledger i ≤ a) → any_below (byte_above a base stride ledger) n ≡ false
  none_above f = any_none (byte_above a base stride ledger) n (λ i h. le-ltb a _ (f i h))

  pub none_below : ((i : ℕ) → i < n → a ≤ line 0 base stride ledger i) → any_below (byte_below a base stride ledger) n ≡ false
  none_below f = any_none (byte_below a base stride ledger) n (λ i h. le-ltb _ a (f i h))

  pub one_above : (i : ℕ) × (i < n) × (a < line 0 base stride ledger i) → any_below (byte_above a base stride ledger) n ≡ true
  one_above w = any_at (byte_above a base stride ledger) n w.0 w.1 (lt-ltb a _ w.2)

  pub one_below : (i : ℕ) × (i < n) × (line 0 base stride ledger i < a) → any_below (byte_below a base stride ledger) n ≡ true
  one_below w = any_at (byte_below a base stride ledger) n w.0 w.1 (lt-ltb _ a w.2)
