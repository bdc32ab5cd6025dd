-- What a shape's methods answer: 0 for a shape that is refused and for an axis that it has not. Assumes nothing.
use Rattle.std.specs.Prelude.{◌≡◌, cond, not, ◌&&◌, List, [], ◌∷◌, ◌++◌, ℕ, Result, ◌*◌, eqb, ltb, take}
use Rattle.shape.specs.Shape.{longest, size, stride, lines, first, is_line}
use Rattle.shape.specs.Checks.{refuse, first_refusal, shape_checks, shape_accepted}
use Rattle.shape.specs.Refusal.{answer_number, answer_or}
use Rattle.shape.specs.declared.answers.Refusal.{Refusal}

-- the coefficients that a map has, and the scratch that its fit needs
unfoldable pub coeff_storage_len : ℕ → List ℕ → ℕ
coeff_storage_len count lens = cond (shape_accepted count lens) (size (take count lens)) 0

unfoldable pub construction_scratch_len : ℕ → List ℕ → ℕ
construction_scratch_len count lens = cond (shape_accepted count lens) (2 * longest (take count lens)) 0

-- the stride of axis a, and how many lines it has
unfoldable pub stride_of : ℕ → List ℕ → ℕ → ℕ
stride_of count lens a = cond (shape_accepted count lens && ltb a count) (stride (take count lens) a) 0

unfoldable pub lines_of : ℕ → List ℕ → ℕ → ℕ
lines_of count lens a = cond (shape_accepted count lens && ltb a count) (lines (take count lens) a) 0

-- the first cell of line l of axis a, or the refusal
unfoldable pub first_cell_answer : ℕ → List ℕ → ℕ → ℕ → ℕ
first_cell_answer count lens a l = first_refusal (shape_checks count lens ++ refuse 7 (not (is_line (take count lens) a l)) ∷ [])

pub record FirstCellFound (count : ℕ) (lens : List ℕ) (a l : ℕ) (r : Result ℕ Refusal) : Type 0 where
  pub answers : answer_number r ≡ first_cell_answer count lens a l
  pub cell : answer_or 0 r ≡ cond (eqb (first_cell_answer count lens a l) 0) (first (take count lens) a l) 0
