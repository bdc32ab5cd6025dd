-- What begin, the line call and a list of line calls answer and leave, for any way of solving a line. Assumes nothing.
--     count, lens, grid, knots, o, upper, solve   as in book/specs/Line_call.antt
--     state, scratch, told                        what a call is lent: coefficients and ledger, scratch, a byte for each answer;
--                                                 with ', what it leaves there
use Rattle.std.specs.Prelude.{◌≡◌, cond, List, [], ◌∷◌, ◌++◌, ℕ, eqb, length, take, set}
use Rattle.shape.specs.Checks.{Check, first_refusal, length_check}
use Rattle.book.specs.LineCall.{Call, State, begin_checks, begin_answer, call_answer, line_call, call_scratch, after, answers, begun}
use Rattle.book.specs.Book.{book_after, book_answers}
use Rattle.book.specs.Order.{fed_list, Agrees}

-- ---- the calls of a list: one for each axis and line, each with scratch of the same length

unfoldable pub task_list : {A : Type 0} → List ℕ → List ℕ → List A → List (Call A)
task_list [] lines scratch = []
task_list (a ∷ axes) [] scratch = []
task_list (a ∷ axes) (l ∷ lines) scratch = record { axis = a; line = l; scratch = scratch } ∷ task_list axes lines scratch

module _ (count : ℕ) (lens : List ℕ) (grid knots : List Check) where
  -- ---- begin: accepted, it leaves the samples and a ledger of zeros; refused, it changes nothing

  pub record Begun {A : Type 0} (samples : List A) (state : State A) (scratch answer : ℕ) (state' : State A) : Type 0 where
    pub answered : answer ≡ begin_answer count lens grid knots (length samples) (length state.coefs) (length state.ledger) scratch
    pub leaves : state' ≡ cond (eqb answer 0) (begun (take count lens) samples) state

  -- begin's checks, and then the lengths of the lists: as many lines, and as many bytes for answers, as axes
  unfoldable pub list_checks : ℕ → ℕ → ℕ → ℕ → ℕ → ℕ → ℕ → List Check
  list_checks samples coefs ledger scratch axes lines told =
      begin_checks count lens grid knots samples coefs ledger scratch ++ (length_check axes lines ++ length_check axes told)

  module _ {A : Type 0} (o : A) (upper solve : ℕ → (ℕ → A) → ℕ → A) where
    -- ---- the line call

    pub record LineCalled (call : Call A) (state : State A) (answer : ℕ) (state' : State A) (scratch' : List A) : Type 0 where
      pub answered : answer ≡ call_answer count lens grid knots call state
      pub leaves : state' ≡ line_call count lens grid knots o solve call state
      pub scratch_after : scratch' ≡ call_scratch count lens grid knots o solve upper call state

    -- ---- a list of line calls

    -- what it leaves in scratch: each call is lent what the one before it left
    unfoldable pub task_scratch : List ℕ → List ℕ → State A → List A → List A
    task_scratch [] lines state scratch = scratch
    task_scratch (a ∷ axes) [] state scratch = scratch
    task_scratch (a ∷ axes) (l ∷ lines) state scratch =
        let call : Call A = record { axis = a; line = l; scratch = scratch } in
        task_scratch axes lines (line_call count lens grid knots o solve call state) (call_scratch count lens grid knots o solve upper call state)

    -- call i of a list, its answer put into byte i
    pub record OneRan (call : Call A) (i : ℕ) (state : State A) (told : List ℕ) (state' : State A) (scratch' : List A) (told' : List ℕ) : Type 0 where
      pub leaves : state' ≡ line_call count lens grid knots o solve call state
      pub scratch_after : scratch' ≡ call_scratch count lens grid knots o solve upper call state
      pub tells : told' ≡ set told i (call_answer count lens grid knots call state)

    -- the whole list, from any state
    pub record ListRan (axes lines : List ℕ) (state : State A) (scratch : List A) (state' : State A) (scratch' : List A) (told' : List ℕ) : Type 0 where
      pub leaves : state' ≡ after count lens grid knots o solve (task_list axes lines scratch) state
      pub scratch_after : scratch' ≡ task_scratch axes lines state scratch
      pub tells : told' ≡ answers count lens grid knots o solve (task_list axes lines scratch) state

    -- Begin and then the whole list: accepted, the answers are the book's, one by one, and coefficients and ledger are what
    -- demand 3 claims; refused, nothing is changed.
    pub record Ran (samples : List A) (axes lines : List ℕ) (state : State A) (scratch : List A) (told : List ℕ) (answer : ℕ) (state' : State A) (scratch' : List A) (told' : List ℕ) : Type 0 where
      pub answered :
          answer
          ≡ first_refusal (list_checks (length samples) (length state.coefs) (length state.ledger) (length scratch) (length axes) (length lines) (length told))
      pub leaves : state' ≡ cond (eqb answer 0) (after count lens grid knots o solve (task_list axes lines scratch) (begun (take count lens) samples)) state
      pub scratch_after : scratch' ≡ cond (eqb answer 0) (task_scratch axes lines (begun (take count lens) samples) scratch) scratch
      pub tells : told' ≡ cond (eqb answer 0) (book_answers (take count lens) (fed_list (task_list axes lines scratch)) []) told
      pub agrees : answer ≡ 0 → Agrees o solve (take count lens) samples state' (book_after (take count lens) (fed_list (task_list axes lines scratch)) [])
