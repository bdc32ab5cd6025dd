-- The book of a list of line calls: fed the shape and each call's axis, line and scratch length, and nothing else, it keeps
-- which lines are solved. Assumes nothing.
--     dims     the lengths of the axes, axis 0 first
use Rattle.std.specs.Prelude.{Bool, false, cond, not, ◌&&◌, ◌||◌, List, [], ◌∷◌, ◌++◌, ℕ, eqb, length}
use Rattle.shape.specs.Below.{all_below, how_many, sum_below}
use Rattle.shape.specs.Shape.{points, lines, is_line, cell_at, line_at}
use Rattle.shape.specs.Checks.{Check, refuse, first_refusal, scratch_check}

-- a line: its axis, and its number on it
pub record Line : Type 0 where
  pub axis : ℕ
  pub number : ℕ

-- the solved lines, the last one first
abbrev pub Book : Type 0
Book = List Line

unfoldable pub is_solved : Book → ℕ → ℕ → Bool
is_solved [] a l = false
is_solved (x ∷ book) a l = eqb x.axis a && eqb x.number l || is_solved book a l

-- every line of a lower axis that shares a cell with line l of axis a is solved: of each of its cells, and of each lower axis
-- b, the line of axis b through that cell
unfoldable pub lower_solved : List ℕ → Book → ℕ → ℕ → Bool
lower_solved dims book a l = all_below (λ i. all_below (λ b. is_solved book b (line_at dims b (cell_at dims a l i))) a) (points dims a)

-- a line is due when it is unsolved and every such line is solved
unfoldable pub is_due : List ℕ → Book → ℕ → ℕ → Bool
is_due dims book a l = not (is_solved book a l) && lower_solved dims book a l

-- ---- a call: too little scratch answers 4; no such axis or line, 7; a solved line, 8; one not due, 9

-- what the book is fed of a call: its axis, its line, and the length of its scratch
pub record Fed : Type 0 where
  pub axis : ℕ
  pub line : ℕ
  pub scratch : ℕ

unfoldable pub book_checks : List ℕ → Book → Fed → List Check
book_checks dims book fed =
    let a = fed.axis in
    let l = fed.line in
    scratch_check dims fed.scratch ++ (refuse 7 (not (is_line dims a l)) ∷ refuse 8 (is_solved book a l) ∷ refuse 9 (not (is_due dims book a l)) ∷ [])

abbrev pub book_answer : List ℕ → Book → Fed → ℕ
book_answer dims book fed = first_refusal (book_checks dims book fed)

-- a due line is accepted and from then on solved; a refusal changes nothing
unfoldable pub book_call : List ℕ → Fed → Book → Book
book_call dims fed book = cond (eqb (book_answer dims book fed) 0) (record { axis = fed.axis; number = fed.line } ∷ book) book

-- ---- a list of calls

unfoldable pub book_after : List ℕ → List Fed → Book → Book
book_after dims [] book = book
book_after dims (fed ∷ rest) book = book_after dims rest (book_call dims fed book)

unfoldable pub book_answers : List ℕ → List Fed → Book → List ℕ
book_answers dims [] book = []
book_answers dims (fed ∷ rest) book = book_answer dims book fed ∷ book_answers dims rest (book_call dims fed book)

-- ---- what the book says of a cell, and of the ledger

-- how many solved lines run through a cell: of each axis one line does
unfoldable pub solved_through : List ℕ → Book → ℕ → ℕ
solved_through dims book cell = how_many (λ a. is_solved book a (line_at dims a cell)) (length dims)

-- the summed lengths of the solved lines
unfoldable pub solved_length : List ℕ → Book → ℕ
solved_length dims book = sum_below (λ a. sum_below (λ l. cond (is_solved book a l) (points dims a) 0) (lines dims a)) (length dims)
