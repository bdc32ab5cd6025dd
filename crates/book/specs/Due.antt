-- What it means that a line is due: in the book, that it is unsolved and that every line of a lower axis that shares a cell
-- with it is solved; to a call, that each of its ledger bytes is its axis's number. Assumes nothing.
use Rattle.std.specs.Prelude.{◌≡◌, true, false, List, ◌↔◌, ℕ, ◌<◌, length}
use Rattle.shape.specs.Shape.{size, points, NotEmpty, lines, line_at}
use Rattle.shape.specs.Checks.{first_refusal}
use Rattle.shape.specs.Fit.{along}
use Rattle.book.specs.LineCall.{due_checks}
use Rattle.book.specs.Book.{Book, is_solved, is_due}

-- ---- in the book

-- line l of axis a and line m of axis b share a cell
pub record ShareCell (dims : List ℕ) (a l b m : ℕ) : Type 0 where
  pub cell : ℕ
  pub in_map : cell < size dims
  pub on-first : line_at dims a cell ≡ l
  pub on-second : line_at dims b cell ≡ m

pub record Due (dims : List ℕ) (book : Book) (a l : ℕ) : Type 0 where
  pub unsolved : is_solved book a l ≡ false
  pub lower-solved : (b m : ℕ) → b < a → ShareCell dims a l b m → is_solved book b m ≡ true

-- the test of the book says just this
abbrev pub DueMeans : Type 0
DueMeans = (dims : List ℕ) → NotEmpty dims → (book : Book) (a l : ℕ) → a < length dims → l < lines dims a
    → (is_due dims book a l ≡ true) ↔ Due dims book a l

-- ---- to a call, on whatever ledger it is handed

pub record DueBytes (dims : List ℕ) (a l : ℕ) (ledger : List ℕ) : Type 0 where
  pub is-axis : a < length dims
  pub is-line : l < lines dims a
  pub each : (i : ℕ) → i < points dims a → along 0 dims a l ledger i ≡ a

-- the checks of a call say just this
abbrev pub DueBytesMeans : Type 0
DueBytesMeans = (dims : List ℕ) (a l : ℕ) (ledger : List ℕ) → (first_refusal (due_checks dims a l ledger) ≡ 0) ↔ DueBytes dims a l ledger
