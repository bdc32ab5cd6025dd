-- In the book a line is due exactly where it is unsolved and every line of a lower axis that shares a cell with it is solved;
-- and some line is due until all are solved. Assumes nothing.
use mathlib.Core.Path.{◌≡◌, refl, sym, ap, ◌∙◌}
use mathlib.Core.Logic.{◌⊎◌, inl, inr}
use mathlib.Core.Bool.{true, false, not}
use mathlib.Core.List.{List}
use Prim.Native.Nat.{ℕ, zero, suc, ◌≤◌, ◌<◌}
use native.Mathlib.Nat.{le_refl, eq-or-lt_of_le, le_of_suc-le-suc, not-suc-le-zero}
use native.Mathlib.Omega.{arith}
use lib.ListN.{length}
use borrow.Author.Tests.{not-true}
use Rattle.shape.specs.Shape.{points, NotEmpty, lines, cell_at, line_at, place_at}
use Rattle.shape.proofs.Radix.{line_at-cell_at, cell_at-line_at, place_at-lt, line_at-lt, cell_at-lt}
use Rattle.book.specs.Book.{Book, is_solved, lower_solved, is_due}
use Rattle.book.specs.Due.{DueMeans}
use Rattle.book.specs.Order.{AllSolved, SomeDue}
use Rattle.shape.proofs.Below.{and_both, all-intro, all-at, all-or-one}

-- the test looks at each cell of the line, and at each lower axis
pub lower-at : (dims : List ℕ) → NotEmpty dims → (book : Book) (a l : ℕ) → a < length dims → lower_solved dims book a l ≡ true
    → (b cell : ℕ) → b < a → line_at dims a cell ≡ l → is_solved book b (line_at dims b cell) ≡ true
unfolding lower_solved
lower-at dims ne book a l ha e b cell hb on =
    let back : cell_at dims a l (place_at dims a cell) ≡ cell = rw on at (cell_at-line_at dims ne a cell) in
    ap (λ (c : ℕ). is_solved book b (line_at dims b c)) (sym back)
    ∙ all-at _ a (all-at _ (points dims a) e (place_at dims a cell) (place_at-lt dims ne a ha cell)) b hb

pub due-means : DueMeans
unfolding is_due lower_solved
due-means dims ne book a l ha hl = (
  (λ e.
      let both = and_both (not (is_solved book a l)) (lower_solved dims book a l) e in
      record {
        unsolved = not-true (is_solved book a l) both.0;
        lower-solved = λ b m hb s. ap (is_solved book b) (sym s.on-second) ∙ lower-at dims ne book a l ha both.1 b s.cell hb s.on-first;
      }),
  (λ d.
      rw d.unsolved
      (all-intro _ (points dims a) (λ i hi. all-intro _ a (λ b hb.
      d.lower-solved b (line_at dims b (cell_at dims a l i)) hb
      (record { cell = cell_at dims a l i; in_map = cell_at-lt dims ne a ha l i hl hi; on-first = line_at-cell_at dims ne a l i hi; on-second = refl }))))),
)

-- ---- some line is due until all are solved: an unsolved line of the lowest axis that has one

module _ (dims : List ℕ) (ne : NotEmpty dims) (book : Book) where
  -- the lines of the axes below n are solved
  abbrev SolvedBelow : ℕ → Type 0
  SolvedBelow n = (a l : ℕ) → a < n → l < lines dims a → is_solved book a l ≡ true

  due-here : (a l : ℕ) → a < length dims → l < lines dims a → is_solved book a l ≡ false → SolvedBelow a → is_due dims book a l ≡ true
  due-here a l ha hl e f =
      (due-means dims ne book a l ha hl).1
      (record {
        unsolved = e;
        lower-solved = λ b m hb s.
            let hb' : b < length dims = omega arith in
            f b m hb (rw s.on-second at (line_at-lt dims ne b hb' s.cell s.in_map));
      })

  search-due : (n : ℕ) → n ≤ length dims → SolvedBelow n ⊎ SomeDue dims book
  search-due zero h = inl (λ a l k. absurd (not-suc-le-zero k))
  search-due (suc n) h = go (search-due n (omega arith)) (all-or-one (is_solved book n) (lines dims n))
    where
      more : SolvedBelow n → ((l : ℕ) → l < lines dims n → is_solved book n l ≡ true) → (a l : ℕ) → (a ≡ n) ⊎ (a < n) → l < lines dims a → is_solved book a l ≡ true
      more f r a l (inl q) hl = rw q (r l (rw q at hl))
      more f r a l (inr k) hl = f a l k hl

      go : SolvedBelow n ⊎ SomeDue dims book → ((l : ℕ) → l < lines dims n → is_solved book n l ≡ true) ⊎ ((l : ℕ) × (l < lines dims n) × (is_solved book n l ≡ false))
          → SolvedBelow (suc n) ⊎ SomeDue dims book
      go (inr d) r = inr d
      go (inl f) (inl r) = inl (λ a l k. more f r a l (eq-or-lt_of_le (le_of_suc-le-suc k)))
      go (inl f) (inr x) = inr (record { axis = n; line = x.0; is-axis = h; is-line = x.1; due = due-here n x.0 h x.1 x.2 f })

  pub all-or-due : AllSolved dims book ⊎ SomeDue dims book
  all-or-due = search-due (length dims) (le_refl (length dims))
