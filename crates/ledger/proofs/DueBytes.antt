-- A line by the numbers that the code works out: whether it is due, and 1 more in its bytes. Assumes nothing.
use Rattle.std.specs.Prelude.{Option, None}
use mathlib.Core.Path.{◌≡◌, sym, ◌∙◌}
use mathlib.Core.Bool.{false}
use mathlib.Core.List.{List, [], ◌∷◌}
use Prim.Native.Nat.{ℕ, ◌+◌, ◌≤◌, ◌<◌}
use native.Mathlib.Omega.{arith}
use lib.ListN.{length}
use borrow.Author.Tests.{lt-ltb}
use Rattle.shape.specs.Shape.{points, stride, lines, first, is_line}
use Rattle.shape.specs.Cells.{on_line, line, write_line}
use Rattle.shape.specs.Checks.{refuse, first_refusal}
use Rattle.shape.specs.Line.{LineIs, LineLooked}
use Rattle.shape.specs.declared.line.Line.{Line}
use Rattle.shape.proofs.Checks.{check-fails, check-passes}
use Rattle.shape.proofs.Cells.{put-ext}
use Rattle.shape.specs.Below.{any_below}
use Rattle.book.specs.LineCall.{byte_above, byte_below, due_checks, one_more, bumped}
use Rattle.book.proofs.Bytes.{due-bytes, bumped-line}
use Rattle.ledger.specs.Bytes.{EachByte, each}

module _ (dims : List ℕ) (a l : ℕ) (ledger : List ℕ) where
  -- from what the search for the line finds: there is none, or it has these numbers
  pub due-none : {x : Option Line} → x ≡ None → LineLooked dims a l x → ◌≡◌ {A = ℕ} 7 (first_refusal (due_checks dims a l ledger))
  due-none told w = let e : is_line dims a l ≡ false = rw told at w in check-fails _ 7 _ (rw e)

  module _ {found : Line} (w : LineIs dims a l found) where
    -- the answer for its bytes is the answer for the line
    pub due-rest : {m : ℕ}
        → m ≡ first_refusal (refuse 8 (any_below (byte_above a found.base found.stride ledger) found.n) ∷ refuse 9 (any_below (byte_below a found.base found.stride ledger) found.n) ∷ [])
        → m ≡ first_refusal (due_checks dims a l ledger)
    due-rest {m} e =
        let e' : m ≡ first_refusal (refuse 8 (any_below (byte_above a (first dims a l) (stride dims a) ledger) (points dims a))
        ∷ refuse 9 (any_below (byte_below a (first dims a l) (stride dims a) ledger) (points dims a)) ∷ []) =
        rw (w.the-first, w.the-stride, w.the-points) at e in
        e' ∙ sym (check-passes _ 7 _ (rw (lt-ltb a (length dims) w.is-axis, lt-ltb l (lines dims a) w.is-line)))

    -- each byte of a line that is due is its axis's number
    pub due-each : first_refusal (due_checks dims a l ledger) ≡ 0 → EachByte a found ledger
    due-each ok i h = rw (w.the-first, w.the-stride) (((due-bytes dims a l ledger).0 ok).each i (rw w.the-points at h))

    pub bumped-is : {ledger' : List ℕ} → ledger' ≡ write_line found.base found.stride (one_more found.base found.stride ledger) found.n ledger → ledger' ≡ bumped dims a l ledger
    bumped-is e = e ∙ bumped-line dims a l ledger found.base found.stride found.n w.the-first w.the-stride w.the-points

-- ---- the bytes of a line set by a loop that goes up: the first i are done

pub record SetTo (base stride n v : ℕ) (ledger₀ ledger : List ℕ) (i : ℕ) : Type 0 where
  pub most : i ≤ n
  pub same_length : length ledger ≡ length ledger₀
  pub bytes : ledger ≡ write_line base stride (each v) i ledger₀

module _ {base stride n v : ℕ} {ledger₀ : List ℕ} where
  module _ {ledger : List ℕ} {i : ℕ} (w : SetTo base stride n v ledger₀ ledger i) where
    pub set-done : n ≤ i → ledger ≡ write_line base stride (each v) n ledger₀
    set-done h = let e : i ≡ n = omega (arith, w.most) in rw e at w.bytes

-- a line whose bytes are all a, set to a + 1
pub set_more : (base stride n a v : ℕ) (ledger : List ℕ) → v ≡ a + 1 → ((i : ℕ) → i < n → line 0 base stride ledger i ≡ a)
    → {ledger' : List ℕ} → ledger' ≡ write_line base stride (each v) n ledger → ledger' ≡ write_line base stride (one_more base stride ledger) n ledger
set_more base stride n a v ledger ev is e =
    e ∙ put-ext (on_line base stride) (each v) (one_more base stride ledger) n ledger (λ k h. omega (arith, ev, is k h))
