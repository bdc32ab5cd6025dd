-- Demand 1 for the calls on a shape. Assumes nothing.
use Rattle.std.specs.Prelude.{◌≡◌, List, [], ◌∷◌, ◌++◌, ℕ, length, take}
use Rattle.shape.specs.Checks.{first_refusal, shape_checks}
use Rattle.shape.specs.Sizes.{first_cell_answer}
use Rattle.shape.specs.Outcome.{Total, shape_conditions, line_condition}

-- `check`
abbrev pub ShapeTotal : Type 1
ShapeTotal = (count : ℕ) (lens : List ℕ) → length lens ≡ 4 → Total (first_refusal (shape_checks count lens)) (shape_conditions count lens)

-- `first_cell`
abbrev pub FirstCellTotal : Type 1
FirstCellTotal = (count : ℕ) (lens : List ℕ) (a l : ℕ) → length lens ≡ 4
    → Total (first_cell_answer count lens a l) (shape_conditions count lens ++ line_condition (take count lens) a l ∷ [])
