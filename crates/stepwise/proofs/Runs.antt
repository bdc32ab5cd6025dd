-- What begin, the line call and a list of line calls leave, from what the code was answered and what its parts left, for any
-- way of solving a line. Assumes nothing.
use mathlib.Core.Path.{◌≡◌, refl, sym, ap, ap₂, ◌∙◌}
use mathlib.Core.Bool.{false}
use mathlib.Core.List.{List, [], ◌∷◌, ◌++◌, append-nil}
use Prim.Native.Nat.{ℕ, suc, ◌+◌, ◌≤◌, ◌<◌}
use native.Mathlib.Numerals.{add-one}
use native.Mathlib.Omega.{arith}
use lib.Dec.{eqb}
use lib.ListN.{length, get_or, take, drop, set, replicate, length-set, length-replicate, drop_of_length-le}
use lib.Seq.{drop-cons, take_all, take-suc-set, append_snoc}
use borrow.Author.Tests.{ne_eqb}
use Rattle.shape.specs.Shape.{longest, size, points, stride}
use Rattle.shape.specs.Checks.{Check, first_refusal, length_check, Positive}
use Rattle.shape.specs.Fit.{solve_line, line_scratch, along, Looks}
use Rattle.shape.specs.Refusal.{refusal_number}
use Rattle.shape.specs.declared.answers.Refusal.{Refusal}
use Rattle.shape.specs.Line.{LineIs, LineInside, LineFits}
use Rattle.shape.specs.declared.line.Line.{Line}
use Rattle.shape.proofs.Accepted.{usable, axes-are, refusal-append, passed-append, positive-append}
use Rattle.shape.proofs.Found.{on-axis, line-inside, line-fits}
use Rattle.book.specs.LineCall.{Call, State, due_checks, bumped, begin_checks, begin_answer, call_checks, call_answer, line_call, call_scratch, after, answers, begun}
use Rattle.book.specs.Order.{Claim}
use Rattle.book.proofs.Answers.{begin-passed}
use Rattle.book.proofs.Order.{order-never-shows}
use Rattle.book.proofs.SameLengths.{length-coefs, length-ledger, length-call-scratch}
use Rattle.stepwise.specs.Calls.{task_list, Begun, list_checks, LineCalled, task_scratch, OneRan, ListRan, Ran}
use Rattle.ledger.specs.Bytes.{EachByte}
use Rattle.ledger.specs.Ready.{call_ready_checks}
use Rattle.ledger.proofs.DueBytes.{due-each}
use Rattle.ledger.proofs.Stages.{refusal-some, refusal-not-0, CallReady, call-ready, begun-ready, call-not-ready, line-left}

-- ---- begin

-- the copied samples and the zeroed ledger are what an accepted begin leaves
begun-is : {A : Type 0} (dims : List ℕ) {samples coefs : List A} {ledger : List ℕ} (n : ℕ) → coefs ≡ samples → ledger ≡ replicate n 0 → n ≡ size dims
    → ◌≡◌ {A = State A} (record { coefs = coefs; ledger = ledger }) (begun dims samples)
begun-is {A} dims n ec el en =
    ap₂ (λ (xs : List A) (bytes : List ℕ). record { coefs = xs; ledger = bytes }) ec (el ∙ ap (λ (m : ℕ). replicate m 0) en)

module _ {count : ℕ} {lens : List ℕ} {grid knots : List Check} {A : Type 0} {samples : List A} {state : State A} {scratch : ℕ} where
  pub begun-refused : (r : Refusal) → refusal_number r ≡ begin_answer count lens grid knots (length samples) (length state.coefs) (length state.ledger) scratch
      → Begun count lens grid knots samples state scratch (refusal_number r) state
  begun-refused r e = record { answered = e; leaves = rw (refusal-not-0 r) }

  pub begun-accepted : Positive grid → Positive knots → {coefs' : List A} {ledger' : List ℕ} → begin_answer count lens grid knots (length samples) (length state.coefs) (length state.ledger) scratch ≡ 0
      → coefs' ≡ samples → ledger' ≡ replicate (length state.ledger) 0
      → Begun count lens grid knots samples state scratch 0 (record { coefs = coefs'; ledger = ledger' })
  begun-accepted pg pk ok ec el =
      record {
        answered = sym ok;
        leaves = begun-is (take count lens) (length state.ledger) ec el (begin-passed count lens grid knots pg pk (length samples) (length state.coefs) (length state.ledger) scratch ok).ledger-size;
      }

-- ---- the line call

module _ {count : ℕ} {lens : List ℕ} {grid knots : List Check} {A : Type 0} {o : A} {upper solve : ℕ → (ℕ → A) → ℕ → A} {call : Call A} {state : State A} where
  pub called-refused : (r : Refusal) → refusal_number r ≡ call_answer count lens grid knots call state
      → LineCalled count lens grid knots o upper solve call state (refusal_number r) state call.scratch
  unfolding line_call call_scratch
  called-refused r same =
      let some : eqb (call_answer count lens grid knots call state) 0 ≡ false = ne_eqb _ 0 (λ z. refusal-some r (same ∙ z)) in
      record { answered = same; leaves = rw some; scratch_after = rw some }

  pub called-accepted : call_answer count lens grid knots call state ≡ 0 → {coefs' scratch' : List A} {ledger' : List ℕ}
      → coefs' ≡ solve_line o (solve call.axis) (points (take count lens) call.axis) (stride (take count lens) call.axis) call.line state.coefs
      → ledger' ≡ bumped (take count lens) call.axis call.line state.ledger
      → scratch' ≡ line_scratch (longest (take count lens)) (upper call.axis (along o (take count lens) call.axis call.line state.coefs))
      (solve call.axis (along o (take count lens) call.axis call.line state.coefs)) (points (take count lens) call.axis) call.scratch
      → LineCalled count lens grid knots o upper solve call state 0 (record { coefs = coefs'; ledger = ledger' }) scratch'
  unfolding line_call call_scratch
  called-accepted ok ec el es =
      record {
        answered = sym ok;
        leaves = rw ok (ap₂ (λ (xs : List A) (bytes : List ℕ). record { coefs = xs; ledger = bytes }) ec el);
        scratch_after = rw ok es;
      }

-- a call that is refused before its line is looked at
pub called-unready : (count : ℕ) (lens : List ℕ) (grid knots : List Check) → Positive grid → Positive knots → {A : Type 0} {o : A} {upper solve : ℕ → (ℕ → A) → ℕ → A} (call : Call A) (state : State A)
    → (r : Refusal) → refusal_number r ≡ first_refusal (call_ready_checks count lens grid knots (length state.coefs) (length state.ledger) (length call.scratch))
    → LineCalled count lens grid knots o upper solve call state (refusal_number r) state call.scratch
called-unready count lens grid knots pg pk call state r e = called-refused r (call-not-ready count lens grid knots pg pk call state r e)

-- what a call may take for granted of a line that is found to be due, where all else is checked
pub record LineDue {A : Type 0} (count : ℕ) (lens : List ℕ) (grid knots : List Check) (call : Call A) (state : State A) (found : Line) : Type 0 where
  pub ready : CallReady count lens grid knots (length state.coefs) (length state.ledger) (length call.scratch)
  pub is-axis : call.axis < count
  pub numbers : LineIs (take count lens) call.axis call.line found
  pub accepted : call_answer count lens grid knots call state ≡ 0
  pub fits : LineFits found (length state.coefs) (length call.scratch)
  pub inside : LineInside found (length state.ledger)
  pub bytes : EachByte call.axis found state.ledger

module _ (count : ℕ) (lens : List ℕ) (grid knots : List Check) (pg : Positive grid) (pk : Positive knots) {A : Type 0} (call : Call A) (state : State A)
    (ok : first_refusal (call_ready_checks count lens grid knots (length state.coefs) (length state.ledger) (length call.scratch)) ≡ 0) where
  left : call_answer count lens grid knots call state ≡ first_refusal (due_checks (take count lens) call.axis call.line state.ledger)
  left = line-left count lens grid knots pg pk call state ok

  pub not-due : {o : A} {upper solve : ℕ → (ℕ → A) → ℕ → A} (r : Refusal) → refusal_number r ≡ first_refusal (due_checks (take count lens) call.axis call.line state.ledger)
      → LineCalled count lens grid knots o upper solve call state (refusal_number r) state call.scratch
  not-due r e = called-refused r (e ∙ sym left)

  pub line-due : length lens ≡ 4 → {found : Line} → LineIs (take count lens) call.axis call.line found × (first_refusal (due_checks (take count lens) call.axis call.line state.ledger) ≡ 0)
      → LineDue count lens grid knots call state found
  line-due four {found = found} p =
      let ready = call-ready count lens grid knots pg pk (length state.coefs) (length state.ledger) (length call.scratch) four ok in
      let u = ready.shape in
      record {
        ready = ready;
        is-axis = on-axis count lens four u call.axis call.line p.0;
        numbers = p.0;
        accepted = left ∙ p.1;
        fits = line-fits count lens four u call.axis call.line p.0 ready.coefs-size ready.scratch-room;
        inside = line-inside count lens four u call.axis call.line p.0 ready.ledger-size;
        bytes = due-each (take count lens) call.axis call.line state.ledger p.0 p.1;
      }

-- ---- one call of a list

pub one-ran : {count : ℕ} {lens : List ℕ} {grid knots : List Check} {A : Type 0} {o : A} {upper solve : ℕ → (ℕ → A) → ℕ → A} {call : Call A} {state state' : State A} {scratch' : List A}
    {answer i number : ℕ} {told told' : List ℕ}
    → LineCalled count lens grid knots o upper solve call state answer state' scratch' → number ≡ answer → told' ≡ set told i number
    → OneRan count lens grid knots o upper solve call i state told state' scratch' told'
one-ran {i = i} {told = told} w e et = record { leaves = w.leaves; scratch_after = w.scratch_after; tells = et ∙ ap (set told i) (e ∙ w.answered) }

module _ (count : ℕ) (lens : List ℕ) (grid knots : List Check) {A : Type 0} (o : A) (upper solve : ℕ → (ℕ → A) → ℕ → A) where
  -- a call looks at the length of scratch only
  module _ (a l : ℕ) (s t : List A) (same : length s ≡ length t) (state : State A) where
    answer-same : call_answer count lens grid knots (record { axis = a; line = l; scratch = s }) state ≡ call_answer count lens grid knots (record { axis = a; line = l; scratch = t }) state
    unfolding call_checks
    answer-same = rw same

    line_same : line_call count lens grid knots o solve (record { axis = a; line = l; scratch = s }) state ≡ line_call count lens grid knots o solve (record { axis = a; line = l; scratch = t }) state
    unfolding line_call
    line_same = rw answer-same

  -- ---- a list: the calls below i are made. What is left to do from here is what was asked

  pub record RunTo (axes lines : List ℕ) (state₀ : State A) (scratch₀ : List A) (told₀ : List ℕ) (state : State A) (scratch : List A) (told : List ℕ) (i : ℕ) : Type 0 where
    pub most : i ≤ length axes
    pub same-coefs : length state.coefs ≡ length state₀.coefs
    pub same-ledger : length state.ledger ≡ length state₀.ledger
    pub same-scratch : length scratch ≡ length scratch₀
    pub same-told : length told ≡ length told₀
    pub left : after count lens grid knots o solve (task_list (drop i axes) (drop i lines) scratch₀) state ≡ after count lens grid knots o solve (task_list axes lines scratch₀) state₀
    pub scratch-left : task_scratch count lens grid knots o upper solve (drop i axes) (drop i lines) state scratch ≡ task_scratch count lens grid knots o upper solve axes lines state₀ scratch₀
    pub told-left : take i told ++ answers count lens grid knots o solve (task_list (drop i axes) (drop i lines) scratch₀) state
        ≡ answers count lens grid knots o solve (task_list axes lines scratch₀) state₀

  module _ {axes lines : List ℕ} {state₀ : State A} {scratch₀ : List A} {told₀ : List ℕ} where
    pub run-start : RunTo axes lines state₀ scratch₀ told₀ state₀ scratch₀ told₀ 0
    run-start = record { most = omega arith; same-coefs = refl; same-ledger = refl; same-scratch = refl; same-told = refl; left = refl; scratch-left = refl; told-left = refl }

    pub run_step : {state state' : State A} {scratch scratch' : List A} {told told' : List ℕ} {i : ℕ} → RunTo axes lines state₀ scratch₀ told₀ state scratch told i
        → i < length axes → length lines ≡ length axes → length told₀ ≡ length axes
        → OneRan count lens grid knots o upper solve (record { axis = get_or axes i 0; line = get_or lines i 0; scratch = scratch }) i state told state' scratch' told'
        → RunTo axes lines state₀ scratch₀ told₀ state' scratch' told' (i + 1)
    unfolding task_list after task_scratch answers
    run_step {state} {state'} {scratch} {scratch'} {told} {told'} {i} w h hl ht one =
        let a : ℕ = get_or axes i 0 in
        let l : ℕ = get_or lines i 0 in
        let call : Call A = record { axis = a; line = l; scratch = scratch } in
        let da : drop i axes ≡ a ∷ drop (suc i) axes = drop-cons axes i 0 h in
        let dl : drop i lines ≡ l ∷ drop (suc i) lines = drop-cons lines i 0 (omega arith) in
        let st : state' ≡ line_call count lens grid knots o solve (record { axis = a; line = l; scratch = scratch₀ }) state = one.leaves ∙ line_same a l scratch scratch₀ w.same-scratch state in
        let tk : take (suc i) told' ≡ take i told ++ (call_answer count lens grid knots (record { axis = a; line = l; scratch = scratch₀ }) state ∷ []) =
        ap (take (suc i)) (one.tells ∙ ap (set told i) (answer-same a l scratch scratch₀ w.same-scratch state))
        ∙ take-suc-set told i _ (omega (arith, w.same-told)) in
        record {
          most = omega arith;
          same-coefs = ap (λ (s : State A). length s.coefs) one.leaves ∙ length-coefs count lens grid knots o solve call state ∙ w.same-coefs;
          same-ledger = ap (λ (s : State A). length s.ledger) one.leaves ∙ length-ledger count lens grid knots o solve call state ∙ w.same-ledger;
          same-scratch = ap length one.scratch_after ∙ length-call-scratch count lens grid knots o solve call state upper ∙ w.same-scratch;
          same-told = ap length one.tells ∙ length-set told i _ ∙ w.same-told;
          left = rw (add-one i, st) (rw (da, dl) at w.left);
          scratch-left = rw (add-one i, one.leaves, one.scratch_after) (rw (da, dl) at w.scratch-left);
          told-left = rw (add-one i, tk, st) (append_snoc (take i told) _ _ ∙ (rw (da, dl) at w.told-left));
        }

    pub run-done : {state : State A} {scratch : List A} {told : List ℕ} {i : ℕ} → RunTo axes lines state₀ scratch₀ told₀ state scratch told i → length axes ≤ i → length told₀ ≡ length axes
        → ListRan count lens grid knots o upper solve axes lines state₀ scratch₀ state scratch told
    unfolding task_list after task_scratch answers
    run-done {state} {scratch} {told} {i} w h ht =
        let none : drop i axes ≡ [] = drop_of_length-le axes h in
        record {
          leaves = rw none at w.left;
          scratch_after = rw none at w.scratch-left;
          tells = sym (append-nil told) ∙ ap (λ (xs : List ℕ). xs ++ []) (sym (take_all i told (omega (arith, w.same-told)))) ∙ (rw none at w.told-left);
        }

-- ---- a list: begin's checks, and then the lengths of the lists

module _ (count : ℕ) (lens : List ℕ) (grid knots : List Check) (pg : Positive grid) (pk : Positive knots) (samples coefs ledger scratch axes lines told : ℕ) where
  begin-positive : Positive (begin_checks count lens grid knots samples coefs ledger scratch)
  unfolding begin_checks
  begin-positive =
      (omega arith, (omega arith, (omega arith, positive-append grid _ pg (omega arith, (omega arith, positive-append knots _ pk (omega arith, (omega arith, tt)))))))

  pub list-begin : (r : Refusal) → refusal_number r ≡ begin_answer count lens grid knots samples coefs ledger scratch
      → refusal_number r ≡ first_refusal (list_checks count lens grid knots samples coefs ledger scratch axes lines told)
  unfolding list_checks
  list-begin r e = refusal-append r (begin_checks count lens grid knots samples coefs ledger scratch) _ e

  pub list-lengths : begin_answer count lens grid knots samples coefs ledger scratch ≡ 0 → {n : ℕ} → n ≡ first_refusal (length_check axes lines ++ length_check axes told)
      → n ≡ first_refusal (list_checks count lens grid knots samples coefs ledger scratch axes lines told)
  unfolding list_checks
  list-lengths ok e = e ∙ sym (passed-append (begin_checks count lens grid knots samples coefs ledger scratch) _ begin-positive ok)

-- ---- begin and then a list

-- what begin leaves needs no more checks than those of the line itself
pub begun-calls : (count : ℕ) (lens : List ℕ) (grid knots : List Check) → Positive grid → Positive knots → {A : Type 0} {samples coefs₁ : List A} {ledger₁ : List ℕ} (coefs ledger scratch : ℕ)
    → begin_answer count lens grid knots (length samples) coefs ledger scratch ≡ 0 → coefs₁ ≡ samples → ledger₁ ≡ replicate ledger 0
    → first_refusal (call_ready_checks count lens grid knots (length coefs₁) (length ledger₁) scratch) ≡ 0
begun-calls count lens grid knots pg pk {samples = samples} {coefs₁ = coefs₁} {ledger₁ = ledger₁} coefs ledger scratch e ec el =
    let p = begin-passed count lens grid knots pg pk (length samples) coefs ledger scratch e in
    let hc : length coefs₁ ≡ coefs = ap length ec ∙ p.samples-size ∙ sym p.coefs-size in
    let hl : length ledger₁ ≡ ledger = ap length el ∙ length-replicate ledger 0 in
    rw (hc, hl) (begun-ready count lens grid knots pg pk coefs ledger scratch (length samples) e)

module _ {count : ℕ} {lens : List ℕ} {grid knots : List Check} {A : Type 0} {o : A} {upper solve : ℕ → (ℕ → A) → ℕ → A} {samples : List A} {axes lines : List ℕ} {state : State A} {scratch : List A} {told : List ℕ} where
  ran-refused : (r : Refusal)
      → refusal_number r ≡ first_refusal (list_checks count lens grid knots (length samples) (length state.coefs) (length state.ledger) (length scratch) (length axes) (length lines) (length told))
      → Ran count lens grid knots o upper solve samples axes lines state scratch told (refusal_number r) state scratch told
  ran-refused r e =
      let some = refusal-not-0 r in
      record { answered = e; leaves = rw some; scratch_after = rw some; tells = rw some; agrees = λ z. absurd (refusal-some r z) }

module _ {count : ℕ} {lens : List ℕ} {grid knots : List Check} (pg : Positive grid) (pk : Positive knots) {A : Type 0} {o : A} {upper solve : ℕ → (ℕ → A) → ℕ → A} {samples : List A} {axes lines : List ℕ}
    {state : State A} {scratch : List A} {told : List ℕ} where
  pub ran-not-begun : (r : Refusal) → refusal_number r ≡ begin_answer count lens grid knots (length samples) (length state.coefs) (length state.ledger) (length scratch)
      → Ran count lens grid knots o upper solve samples axes lines state scratch told (refusal_number r) state scratch told
  ran-not-begun r e =
      ran-refused r (list-begin count lens grid knots pg pk (length samples) (length state.coefs) (length state.ledger) (length scratch) (length axes) (length lines) (length told) r e)

  module _ (ok : begin_answer count lens grid knots (length samples) (length state.coefs) (length state.ledger) (length scratch) ≡ 0) where
    pub ran-not-listed : (r : Refusal) → refusal_number r ≡ first_refusal (length_check (length axes) (length lines) ++ length_check (length axes) (length told))
        → Ran count lens grid knots o upper solve samples axes lines state scratch told (refusal_number r) state scratch told
    ran-not-listed r e =
        ran-refused r
        (list-lengths count lens grid knots pg pk (length samples) (length state.coefs) (length state.ledger) (length scratch) (length axes) (length lines) (length told) ok e)

    pub ran-accepted : ◌≡◌ {A = ℕ} 0 (first_refusal (length_check (length axes) (length lines) ++ length_check (length axes) (length told))) → {coefs₁ scratch' : List A} {ledger₁ told' : List ℕ} {state' : State A}
        → coefs₁ ≡ samples → ledger₁ ≡ replicate (length state.ledger) 0
        → ListRan count lens grid knots o upper solve axes lines (record { coefs = coefs₁; ledger = ledger₁ }) scratch state' scratch' told'
        → Claim o solve count lens grid knots samples (task_list axes lines scratch)
        → Ran count lens grid knots o upper solve samples axes lines state scratch told 0 state' scratch' told'
    ran-accepted e {state' = state'} ec el w claim =
        let len = (begin-passed count lens grid knots pg pk (length samples) (length state.coefs) (length state.ledger) (length scratch) ok).ledger-size in
        let from = begun-is (take count lens) (length state.ledger) ec el len in
        let leaves : state' ≡ after count lens grid knots o solve (task_list axes lines scratch) (begun (take count lens) samples) =
        w.leaves ∙ ap (after count lens grid knots o solve (task_list axes lines scratch)) from in
        record {
          answered = list-lengths count lens grid knots pg pk (length samples) (length state.coefs) (length state.ledger) (length scratch) (length axes) (length lines) (length told) ok e;
          leaves = leaves;
          scratch_after = w.scratch_after ∙ ap (λ (s : State A). task_scratch count lens grid knots o upper solve axes lines s scratch) from;
          tells = w.tells ∙ ap (answers count lens grid knots o solve (task_list axes lines scratch)) from ∙ claim.same-answers;
          agrees = λ z. rw leaves claim.agrees;
        }

-- ---- demand 3, for any grid: where its checks have passed, a line of an axis of four points looks at its own samples only

pub spaced-order : {A : Type 0} (o : A) (solve : ℕ → (ℕ → A) → ℕ → A) (count : ℕ) (lens : List ℕ) → length lens ≡ 4 → (grid knots : List Check) → Positive grid → Positive knots
    → ((a : ℕ) → a < length (take count lens) → first_refusal grid ≡ 0 → 4 ≤ points (take count lens) a → Looks (solve a) (points (take count lens) a))
    → (samples : List A) (coefs ledger scratch : ℕ) → begin_answer count lens grid knots (length samples) coefs ledger scratch ≡ 0 → (calls : List (Call A))
    → Claim o solve count lens grid knots samples calls
spaced-order {A} o solve count lens four grid knots pg pk looks samples coefs ledger scratch e calls =
    let p = begin-passed count lens grid knots pg pk (length samples) coefs ledger scratch e in
    let u = usable count lens four p.ready.shape-passed in
    order-never-shows A o solve count lens grid knots four pg pk
    (λ a ha long. looks a (rw (axes-are count lens four u) ha) p.ready.grid-passed long) samples coefs ledger scratch e calls
