-- Demand 1 for begin, the line call and the task list. Assumes nothing.
use mathlib.Core.Path.{◌≡◌, refl}
use mathlib.Core.Logic.{◌↔◌}
use mathlib.Core.Bool.{false}
use mathlib.Core.List.{List, []}
use Prim.Native.Nat.{ℕ, ◌≤◌, ◌<◌}
use lib.ListN.{length, take}
use borrow.Author.Tests.{le-ltb, ltb-false}
use Rattle.shape.specs.Below.{any_below}
use Rattle.shape.specs.Shape.{size, points, stride, first}
use Rattle.shape.specs.Checks.{Check}
use Rattle.shape.specs.Fit.{along}
use Rattle.shape.specs.Usable.{Usable}
use Rattle.shape.specs.Outcome.{Condition}
use Rattle.shape.proofs.Below.{any_none, none-at}
use Rattle.shape.proofs.Outcome.{Tests, none, test, append, shape-test, length-test, scratch-test, line-test}
use Rattle.shape.proofs.Outcome as Outcome
use Rattle.knots.specs.Joined.{total}
use Rattle.rectilinear.proofs.Total.{knots-test}
use Rattle.book.specs.LineCall.{byte_above, byte_below, begin_checks, call_checks}
use Rattle.stepwise.specs.Calls.{list_checks}
use Rattle.stepwise.specs.Total.{begin_conditions, StepsTotal, RegularTotal, RectilinearTotal}

-- no byte of a line is above a, and none below
module _ (dims : List ℕ) (a l : ℕ) (ledger : List ℕ) where
  none_above : (any_below (byte_above a (first dims a l) (stride dims a) ledger) (points dims a) ≡ false) ↔ ((i : ℕ) → i < points dims a → along 0 dims a l ledger i ≤ a)
  none_above =
      let test = byte_above a (first dims a l) (stride dims a) ledger in
      ((λ e i h. ltb-false a _ (none-at test (points dims a) e i h)), (λ f. any_none test (points dims a) (λ i h. le-ltb a _ (f i h))))

  none_below : (any_below (byte_below a (first dims a l) (stride dims a) ledger) (points dims a) ≡ false) ↔ ((i : ℕ) → i < points dims a → a ≤ along 0 dims a l ledger i)
  none_below =
      let test = byte_below a (first dims a l) (stride dims a) ledger in
      ((λ e i h. ltb-false _ a (none-at test (points dims a) e i h)), (λ f. any_none test (points dims a) (λ i h. le-ltb _ a (f i h))))

module _ (count : ℕ) (lens : List ℕ) (grid knots : List Check) (of_grid of_knots : List Condition) (four : length lens ≡ 4)
    (grid-tests : Usable count lens → Tests grid of_grid) (knots-tests : Usable count lens → Tests knots of_knots) where
  begin-tests : (samples coefs ledger scratch : ℕ) → Tests (begin_checks count lens grid knots samples coefs ledger scratch) (begin_conditions count lens of_grid of_knots samples coefs ledger scratch)
  unfolding begin_checks
  begin-tests samples coefs ledger scratch =
      shape-test count lens four (λ u.
      append (grid-tests u) (λ _.
      length-test (size (take count lens)) coefs (λ _.
      length-test (size (take count lens)) ledger (λ _.
      append (knots-tests u) (λ _.
      length-test (size (take count lens)) samples (λ _.
      scratch-test (take count lens) scratch (λ _. none)))))))

  pub steps-total : StepsTotal count lens grid knots of_grid of_knots
  unfolding call_checks list_checks
  steps-total = record {
    begin = λ samples coefs ledger scratch. Outcome.total (begin-tests samples coefs ledger scratch);
    line-call = λ call state.
        let dims = take count lens in
        let a = call.axis in
        Outcome.total (
        shape-test count lens four (λ u.
        append (grid-tests u) (λ _.
        length-test (size dims) (length state.coefs) (λ _.
        length-test (size dims) (length state.ledger) (λ _.
        append (knots-tests u) (λ _.
        scratch-test dims (length call.scratch) (λ _.
        line-test dims a call.line (λ _.
        test refl (none_above dims a call.line state.ledger) (λ _.
        test refl (none_below dims a call.line state.ledger) (λ _.
        none))))))))));
    list = λ samples coefs ledger scratch axes lines told.
        Outcome.total (append (begin-tests samples coefs ledger scratch) (λ _. length-test axes lines (λ _. length-test axes told (λ _. none))));
  }

pub regular-total : RegularTotal
regular-total count lens four = steps-total count lens [] [] [] [] four (λ _. none) (λ _. none)

pub rectilinear-total : RectilinearTotal
rectilinear-total count lens grid four =
    steps-total count lens _ _ _ _ four (λ _. length-test (total (take count lens)) (length grid) (λ _. none)) (λ u. knots-test count lens grid four u (λ _. none))
