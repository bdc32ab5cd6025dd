-- Stepwise fitting on a regular grid, which has no checks of its own; and demand 3 there. Assumes nothing.
use Rattle.std.specs.Prelude.{◌≡◌, List, [], ℕ, length, take, Float}
use Rattle.std.specs.Float.{Format, nan}
use Rattle.regular.specs.Fit.{solve, upper}
use Rattle.book.specs.LineCall.{Call, State, begin_answer}
use Rattle.book.specs.Order.{Claim}
use Rattle.stepwise.specs.Calls as Calls

abbrev pub RegularBegun : ℕ → List ℕ → List Float → State Float → ℕ → ℕ → State Float → Type 0
RegularBegun count lens samples state scratch answer state' = Calls.Begun count lens [] [] samples state scratch answer state'

abbrev pub RegularLineCalled : Format → ℕ → List ℕ → Call Float → State Float → ℕ → State Float → List Float → Type 0
RegularLineCalled f count lens call state answer state' scratch' =
    Calls.LineCalled count lens [] [] nan (upper f (take count lens)) (solve f (take count lens)) call state answer state' scratch'

abbrev pub RegularRan : Format → ℕ → List ℕ → List Float → List ℕ → List ℕ → State Float → List Float → List ℕ → ℕ → State Float → List Float → List ℕ → Type 0
RegularRan f count lens samples axes lines state scratch told answer state' scratch' told' =
    Calls.Ran count lens [] [] nan (upper f (take count lens)) (solve f (take count lens)) samples axes lines state scratch told answer state' scratch' told'

-- Demand 3 on a regular grid: after an accepted begin the claim holds of every list of calls.
abbrev pub RegularOrderNeverShows : Type 0
RegularOrderNeverShows = (f : Format) (count : ℕ) (lens : List ℕ) → length lens ≡ 4
    → (samples : List Float) (coefs ledger scratch : ℕ)
    → begin_answer count lens [] [] (length samples) coefs ledger scratch ≡ 0
    → (calls : List (Call Float))
    → Claim nan (solve f (take count lens)) count lens [] [] samples calls
