-- The checks of a joined grid, from what the code finds; and demand 3 on a rectilinear grid. Assumes nothing.
use mathlib.Core.Path.{◌≡◌, sym, ◌∙◌}
use mathlib.Core.Bool.{Bool, true, false, not}
use mathlib.Core.List.{List, []}
use Prim.Native.Nat.{ℕ}
use lib.ListN.{length, take}
use lib.Ieee.{Float, nan}
use Rattle.shape.specs.Checks.{first_refusal}
use Rattle.shape.specs.Usable.{Usable}
use Rattle.shape.proofs.Accepted.{axes-are}
use Rattle.shape.proofs.Checks.{check-fails, check-passes, length-fails, length-passes}
use Rattle.knots.specs.Joined.{total, all_rise}
use Rattle.knots.specs.Checks.{grid_check, knots_check}
use Rattle.rectilinear.specs.Fit.{solve}
use Rattle.ledger.proofs.Stages.{none-refuse}
use Rattle.stepwise.specs.Rectilinear.{RectilinearOrderNeverShows}
use Rattle.stepwise.specs.Laws.{grid-positive, knots-positive, looks}
use Rattle.stepwise.proofs.Runs.{spaced-order}

-- ---- the checks

module _ (dims : List ℕ) (grid : List Float) where
  -- against the length that the code works out
  module _ {n : ℕ} (is : n ≡ total dims) where
    pub grid-fails : (length grid ≡ n → ⊥) → ◌≡◌ {A = ℕ} 2 (first_refusal (grid_check dims grid))
    grid-fails h = length-fails [] (total dims) (length grid) (λ e. h (e ∙ sym is))

    pub grid-passes : length grid ≡ n → ◌≡◌ {A = ℕ} 0 (first_refusal (grid_check dims grid))
    grid-passes e = sym (length-passes [] (total dims) (length grid) (e ∙ is) ∙ none-refuse)

-- r is what the code finds of the knots
module _ (count : ℕ) (lens : List ℕ) (four : length lens ≡ 4) (u : Usable count lens) (grid : List Float) {r : Bool} (found : r ≡ all_rise grid (take count lens) count) where
  pub knots-fail : not r ≡ true → ◌≡◌ {A = ℕ} 5 (first_refusal (knots_check (take count lens) grid))
  knots-fail h = check-fails [] 5 _ (rw (axes-are count lens four u, ← found) h)

  pub knots-pass : not r ≡ false → ◌≡◌ {A = ℕ} 0 (first_refusal (knots_check (take count lens) grid))
  knots-pass h = sym (check-passes [] 5 _ (rw (axes-are count lens four u, ← found) h) ∙ none-refuse)

-- ---- demand 3

pub rectilinear-order-never-shows : RectilinearOrderNeverShows
rectilinear-order-never-shows f count lens four grid samples coefs ledger scratch e calls =
    let dims : List ℕ = take count lens in
    spaced-order nan (solve f grid dims) count lens four (grid_check dims grid) (knots_check dims grid) (grid-positive dims grid) (knots-positive dims grid) (looks dims grid f) samples coefs ledger scratch e calls
