-- Demand 1 for begin, the line call and the task list. Assumes nothing.
--     count, lens, grid, knots   as in book/specs/Line_call.antt
--     of_grid, of_knots            the conditions that `grid` and `knots` test
use Rattle.std.specs.Prelude.{◌≡◌, List, [], ◌∷◌, ◌++◌, ℕ, ◌≤◌, ◌<◌, length, take, Float}
use Rattle.shape.specs.Shape.{size, points}
use Rattle.shape.specs.Checks.{Check, first_refusal}
use Rattle.shape.specs.Fit.{along}
use Rattle.shape.specs.Outcome.{Condition, refuse_unless, Total, shape_conditions, length_condition, scratch_condition, line_condition}
use Rattle.knots.specs.Checks.{grid_check, knots_check}
use Rattle.rectilinear.specs.Total.{grid_condition, knots_condition}
use Rattle.book.specs.LineCall.{Call, State, begin_answer, call_answer}
use Rattle.stepwise.specs.Calls.{list_checks}

module _ (count : ℕ) (lens : List ℕ) (of_grid of_knots : List Condition) where
  -- begin: those of the fit, and the ledger's length
  abbrev pub begin_conditions : ℕ → ℕ → ℕ → ℕ → List Condition
  begin_conditions samples coefs ledger scratch =
      let dims = take count lens in
      shape_conditions count lens
      ++ (of_grid
      ++ (length_condition (size dims) coefs
      ∷ length_condition (size dims) ledger
      ∷ (of_knots
      ++ (length_condition (size dims) samples
      ∷ scratch_condition dims scratch
      ∷ []))))

  -- the line call: no ledger byte of the line is above its axis, and none below
  abbrev pub call_conditions : {A : Type 0} → Call A → State A → List Condition
  call_conditions call state =
      let dims = take count lens in
      let a = call.axis in
      shape_conditions count lens
      ++ (of_grid
      ++ (length_condition (size dims) (length state.coefs)
      ∷ length_condition (size dims) (length state.ledger)
      ∷ (of_knots
      ++ (scratch_condition dims (length call.scratch)
      ∷ line_condition dims a call.line
      ∷ refuse_unless 8 ((i : ℕ) → i < points dims a → along 0 dims a call.line state.ledger i ≤ a)
      ∷ refuse_unless 9 ((i : ℕ) → i < points dims a → a ≤ along 0 dims a call.line state.ledger i)
      ∷ []))))

pub record StepsTotal (count : ℕ) (lens : List ℕ) (grid knots : List Check) (of_grid of_knots : List Condition) : Type 1 where
  pub begin : (samples coefs ledger scratch : ℕ)
      → Total (begin_answer count lens grid knots samples coefs ledger scratch) (begin_conditions count lens of_grid of_knots samples coefs ledger scratch)
  pub line-call : {A : Type 0} (call : Call A) (state : State A)
      → Total (call_answer count lens grid knots call state) (call_conditions count lens of_grid of_knots call state)
  -- the list: begin's, then as many lines, and as many bytes for answers, as axes
  pub list : (samples coefs ledger scratch axes lines told : ℕ)
      → Total (first_refusal (list_checks count lens grid knots samples coefs ledger scratch axes lines told))
      (begin_conditions count lens of_grid of_knots samples coefs ledger scratch ++ (length_condition axes lines ∷ length_condition axes told ∷ []))

-- a regular grid has no checks of its own
abbrev pub RegularTotal : Type 1
RegularTotal = (count : ℕ) (lens : List ℕ) → length lens ≡ 4 → StepsTotal count lens [] [] [] []

abbrev pub RectilinearTotal : Type 1
RectilinearTotal = (count : ℕ) (lens : List ℕ) (grid : List Float) → length lens ≡ 4
    → StepsTotal count lens (grid_check (take count lens) grid) (knots_check (take count lens) grid) (grid_condition count lens grid ∷ []) (knots_condition count lens grid ∷ [])
