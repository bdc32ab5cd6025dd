-- Demand 3, order never shows: one claim about any list of line calls, from what an accepted begin leaves. Assumes nothing.
use Rattle.std.specs.Prelude.{◌≡◌, true, List, [], ◌∷◌, map, ◌⊎◌, ◌↔◌, ℕ, ◌+◌, ◌≤◌, ◌<◌, length, take, get_or}
use Rattle.shape.specs.Shape.{size, points, NotEmpty, lines}
use Rattle.shape.specs.Checks.{Check, Positive}
use Rattle.shape.specs.Fit.{Looks, fit_after, fit}
use Rattle.book.specs.LineCall.{Call, State, begin_answer, after, answers, begun}
use Rattle.book.specs.Book.{Book, Fed, is_solved, is_due, book_after, book_answers, solved_through, solved_length}

-- what the book is fed of a call, and of each call of a list
abbrev pub fed_of : {A : Type 0} → Call A → Fed
fed_of call = record { axis = call.axis; line = call.line; scratch = length call.scratch }

abbrev pub fed_list : {A : Type 0} → List (Call A) → List Fed
fed_list calls = map fed_of calls

unfoldable pub sum : List ℕ → ℕ
sum [] = 0
sum (x ∷ xs) = x + sum xs

abbrev pub AllSolved : List ℕ → Book → Type 0
AllSolved dims book = (a l : ℕ) → a < length dims → l < lines dims a → is_solved book a l ≡ true

pub record SomeDue (dims : List ℕ) (book : Book) : Type 0 where
  pub axis : ℕ
  pub line : ℕ
  pub is-axis : axis < length dims
  pub is-line : line < lines dims axis
  pub due : is_due dims book axis line ≡ true

-- of a state and a book, and the samples that the state began with
pub record Agrees {A : Type 0} (o : A) (solve : ℕ → (ℕ → A) → ℕ → A) (dims : List ℕ) (samples : List A) (state : State A) (book : Book) : Type 0 where
  -- each cell holds what the fit has there after as many axes as solved lines run through it, and its ledger byte is that
  -- number
  pub value : (cell : ℕ) → cell < size dims → get_or state.coefs cell o ≡ get_or (fit_after o solve dims (solved_through dims book cell) samples) cell o
  pub byte : (cell : ℕ) → cell < size dims → get_or state.ledger cell 0 ≡ solved_through dims book cell
  -- all lines are solved where every byte is the axis count; the coefficients are then those of the whole fit; until then some
  -- line is due
  pub every_byte : AllSolved dims book ↔ ((cell : ℕ) → cell < size dims → get_or state.ledger cell 0 ≡ length dims)
  pub finished : AllSolved dims book → state.coefs ≡ fit o solve dims samples
  pub unfinished : AllSolved dims book ⊎ SomeDue dims book
  pub ledger-sum : sum state.ledger ≡ solved_length dims book
  pub coefs-size : length state.coefs ≡ size dims
  pub ledger-size : length state.ledger ≡ size dims

-- the claim about a list of calls
pub record Claim {A : Type 0} (o : A) (solve : ℕ → (ℕ → A) → ℕ → A) (count : ℕ) (lens : List ℕ) (grid knots : List Check) (samples : List A) (calls : List (Call A)) : Type 0 where
  -- the answers are the book's, one by one
  pub same-answers : answers count lens grid knots o solve calls (begun (take count lens) samples) ≡ book_answers (take count lens) (fed_list calls) []
  pub agrees : Agrees o solve (take count lens) samples (after count lens grid knots o solve calls (begun (take count lens) samples)) (book_after (take count lens) (fed_list calls) [])

-- For any solver that looks at its own line only, on axes of at least four points, and any checks of a grid that refuse with a
-- number above 0: after an accepted begin the claim holds of every list of calls.
abbrev pub OrderNeverShows : Type 1
OrderNeverShows = (A : Type 0) (o : A) (solve : ℕ → (ℕ → A) → ℕ → A) (count : ℕ) (lens : List ℕ) (grid knots : List Check)
    → length lens ≡ 4 → Positive grid → Positive knots
    → ((a : ℕ) → a < count → 4 ≤ points (take count lens) a → Looks (solve a) (points (take count lens) a))
    → (samples : List A) (coefs ledger scratch : ℕ)
    → begin_answer count lens grid knots (length samples) coefs ledger scratch ≡ 0
    → (calls : List (Call A))
    → Claim o solve count lens grid knots samples calls

-- Coefficients and ledger do not differ between orders: where two states agree with books that have the same lines solved, they
-- are the same state.
abbrev pub SameEnd : Type 1
SameEnd = (A : Type 0) (o : A) (solve : ℕ → (ℕ → A) → ℕ → A) (dims : List ℕ) → NotEmpty dims
    → (samples : List A) (state state' : State A) (book book' : Book)
    → Agrees o solve dims samples state book → Agrees o solve dims samples state' book'
    → ((a l : ℕ) → a < length dims → l < lines dims a → is_solved book a l ≡ is_solved book' a l)
    → state ≡ state'
