-- Stepwise fitting on a rectilinear grid, joined axis after axis, whose length and knots are checked besides; and demand 3
-- there. Assumes nothing.
use Rattle.std.specs.Prelude.{◌≡◌, List, ℕ, length, take, Float}
use Rattle.std.specs.Float.{Format, nan}
use Rattle.knots.specs.Checks.{grid_check, knots_check}
use Rattle.rectilinear.specs.Fit.{solve, upper}
use Rattle.book.specs.LineCall.{Call, State, begin_answer}
use Rattle.book.specs.Order.{Claim}
use Rattle.stepwise.specs.Calls as Calls

abbrev pub RectilinearBegun : ℕ → List ℕ → List Float → List Float → State Float → ℕ → ℕ → State Float → Type 0
RectilinearBegun count lens grid samples state scratch answer state' =
    Calls.Begun count lens (grid_check (take count lens) grid) (knots_check (take count lens) grid) samples state scratch answer state'

abbrev pub RectilinearLineCalled : Format → ℕ → List ℕ → List Float → Call Float → State Float → ℕ → State Float → List Float → Type 0
RectilinearLineCalled f count lens grid call state answer state' scratch' =
    Calls.LineCalled count lens (grid_check (take count lens) grid) (knots_check (take count lens) grid) nan (upper f grid (take count lens)) (solve f grid (take count lens)) call state answer state' scratch'

abbrev pub RectilinearRan : Format → ℕ → List ℕ → List Float → List Float → List ℕ → List ℕ → State Float → List Float → List ℕ → ℕ → State Float → List Float → List ℕ → Type 0
RectilinearRan f count lens grid samples axes lines state scratch told answer state' scratch' told' =
    Calls.Ran count lens (grid_check (take count lens) grid) (knots_check (take count lens) grid) nan (upper f grid (take count lens)) (solve f grid (take count lens)) samples axes lines state scratch told answer state' scratch' told'

-- Demand 3 on a rectilinear grid: after an accepted begin the claim holds of every list of calls.
abbrev pub RectilinearOrderNeverShows : Type 0
RectilinearOrderNeverShows = (f : Format) (count : ℕ) (lens : List ℕ) → length lens ≡ 4
    → (grid samples : List Float) (coefs ledger scratch : ℕ)
    → begin_answer count lens (grid_check (take count lens) grid) (knots_check (take count lens) grid) (length samples) coefs ledger scratch ≡ 0
    → (calls : List (Call Float))
    → Claim nan (solve f grid (take count lens)) count lens (grid_check (take count lens) grid) (knots_check (take count lens) grid) samples calls
