-- Stepwise fitting, for any way of solving a line: what begin and the line call answer and leave. Assumes nothing.
--     count, lens    the axis count and the four lengths; the axes are `take count lens`
--     grid, knots    the checks of the joined grid's length and of its knots; none on a regular grid
--     ledger         one byte a cell
--     o, upper, solve   as in shape/specs/Fit.antt
use Rattle.std.specs.Prelude.{Bool, cond, not, List, [], ◌∷◌, ℕ, ◌+◌, eqb, ltb, length, take, replicate}
use Rattle.shape.specs.Below.{any_below}
use Rattle.shape.specs.Shape.{longest, size, points, stride, is_line, first}
use Rattle.shape.specs.Cells.{line, write_line}
use Rattle.shape.specs.Checks.{Check, refuse, first_refusal, fitting_checks}
use Rattle.shape.specs.Fit.{solve_line, line_scratch, along}

-- ---- the due test, on whatever ledger the call is handed

-- the byte of entry i of a line is above a, or below it
abbrev pub byte_above : ℕ → ℕ → ℕ → List ℕ → ℕ → Bool
byte_above a base stride ledger i = ltb a (line 0 base stride ledger i)

abbrev pub byte_below : ℕ → ℕ → ℕ → List ℕ → ℕ → Bool
byte_below a base stride ledger i = ltb (line 0 base stride ledger i) a

-- no such axis or line; solved already: some byte on it above a; not due: none above a, some below
abbrev pub due_checks : List ℕ → ℕ → ℕ → List ℕ → List Check
due_checks dims a l ledger =
    refuse 7 (not (is_line dims a l))
    ∷ refuse 8 (any_below (byte_above a (first dims a l) (stride dims a) ledger) (points dims a))
    ∷ refuse 9 (any_below (byte_below a (first dims a l) (stride dims a) ledger) (points dims a))
    ∷ []

-- the byte of entry i of a line, and 1
abbrev pub one_more : ℕ → ℕ → List ℕ → ℕ → ℕ
one_more base stride ledger i = line 0 base stride ledger i + 1

-- the ledger with 1 added to the bytes of line l of axis a
unfoldable pub bumped : List ℕ → ℕ → ℕ → List ℕ → List ℕ
bumped dims a l ledger = write_line (first dims a l) (stride dims a) (one_more (first dims a l) (stride dims a) ledger) (points dims a) ledger

-- ---- the calls

-- a line call: axis, line, and the scratch that it is lent
pub record Call (A : Type 0) : Type 0 where
  pub axis : ℕ
  pub line : ℕ
  pub scratch : List A

-- what the calls work on
pub record State (A : Type 0) : Type 0 where
  pub coefs : List A
  pub ledger : List ℕ

-- both by their parts, for contracts
abbrev pub call_of : {A : Type 0} → ℕ → ℕ → List A → Call A
call_of axis line scratch = record { axis = axis; line = line; scratch = scratch }

abbrev pub state_of : {A : Type 0} → List A → List ℕ → State A
state_of coefs ledger = record { coefs = coefs; ledger = ledger }

module _ (count : ℕ) (lens : List ℕ) (grid knots : List Check) where
  -- begin checks as the whole fit does, the ledger's length besides
  unfoldable pub begin_checks : ℕ → ℕ → ℕ → ℕ → List Check
  begin_checks samples coefs ledger scratch = fitting_checks count lens grid knots coefs (ledger ∷ []) (samples ∷ []) scratch []

  abbrev pub begin_answer : ℕ → ℕ → ℕ → ℕ → ℕ
  begin_answer samples coefs ledger scratch = first_refusal (begin_checks samples coefs ledger scratch)

  unfoldable pub call_checks : {A : Type 0} → Call A → State A → List Check
  call_checks call state =
      fitting_checks count lens grid knots (length state.coefs) (length state.ledger ∷ []) [] (length call.scratch)
      (due_checks (take count lens) call.axis call.line state.ledger)

  abbrev pub call_answer : {A : Type 0} → Call A → State A → ℕ
  call_answer call state = first_refusal (call_checks call state)

  module _ {A : Type 0} (o : A) (solve : ℕ → (ℕ → A) → ℕ → A) where
    -- an accepted call solves its line and adds 1 to its bytes; a refusal changes nothing
    unfoldable pub line_call : Call A → State A → State A
    line_call call state =
        let dims = take count lens in
        let a = call.axis in
        let l = call.line in
        cond (eqb (call_answer call state) 0)
        (record {
          coefs = solve_line o (solve a) (points dims a) (stride dims a) l state.coefs;
          ledger = bumped dims a l state.ledger;
        })
        state

    -- a list of calls, one after the other: what they leave, and what they answer
    unfoldable pub after : List (Call A) → State A → State A
    after [] state = state
    after (call ∷ calls) state = after calls (line_call call state)

    unfoldable pub answers : List (Call A) → State A → List ℕ
    answers [] state = []
    answers (call ∷ calls) state = call_answer call state ∷ answers calls (line_call call state)

    -- what a call leaves in scratch: the upper numbers of its line, and its coefficients
    unfoldable pub call_scratch : (upper : ℕ → (ℕ → A) → ℕ → A) → Call A → State A → List A
    call_scratch upper call state =
        let dims = take count lens in
        let a = call.axis in
        let y = along o dims a call.line state.coefs in
        cond (eqb (call_answer call state) 0) (line_scratch (longest dims) (upper a y) (solve a y) (points dims a) call.scratch) call.scratch

-- what an accepted begin leaves: the samples, and a ledger of zeros
abbrev pub begun : {A : Type 0} → List ℕ → List A → State A
begun dims samples = record { coefs = samples; ledger = replicate (size dims) 0 }
