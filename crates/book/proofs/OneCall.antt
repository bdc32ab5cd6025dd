-- One call: the line call and the book answer alike, and what ties ledger, coefficients and book is kept. Assumes nothing.
use mathlib.Core.Path.{◌≡◌, refl, sym, ap, ◌∙◌}
use mathlib.Core.Logic.{◌≢◌}
use mathlib.Core.Bool.{Bool, true, false, cond, not, ◌&&◌}
use mathlib.Core.List.{List, [], ◌∷◌, ◌++◌}
use Prim.Native.Nat.{ℕ, suc, ◌+◌, ◌-◌, ◌*◌, ◌≤◌, ◌<◌}
use native.Mathlib.Decide.{ℕ_discrete}
use native.Mathlib.Numerals.{add-one}
use native.Mathlib.Omega.{arith}
use lib.ListN.{length, get_or, take}
use lib.Dec.{ltb, eqb}
use borrow.Author.Tests.{ltb-true, ltb-false, lt-ltb, eq-eqb, eqb-true, not-false}
use Rattle.shape.specs.Shape.{longest, size, points, NotEmpty, stride, lines, is_line, first, cell_at, line_at, place_at}
use Rattle.shape.specs.Checks.{Check, refuse, first_refusal, scratch_check, Positive}
use Rattle.shape.specs.Fit.{Looks, solve_line, along, fit_after}
use Rattle.shape.proofs.Checks.{scratch-passed}
use Rattle.shape.proofs.Radix.{stride-pos, line_at-cell_at, place_at-lt, cell_at-lt}
use Rattle.shape.proofs.Fit.{length-solve_line, solved-off, solved-on, fit-step}
use Rattle.shape.specs.Below.{any_below, all_below}
use Rattle.book.specs.LineCall.{Call, State, byte_above, byte_below, due_checks, bumped, call_answer, line_call}
use Rattle.book.specs.Book.{Book, Fed, is_solved, lower_solved, is_due, book_checks, book_answer, book_call, solved_length}
use Rattle.book.specs.Order.{fed_of, sum}
use Rattle.shape.proofs.Below.{is_false, same_test, and_both, any_same, all-ext, all-not, all-ltb, sum_below-ext, sum_below-one}
use Rattle.book.proofs.Bytes.{three-passed, is-line, length-bumped, bumped-off, bumped-on, sum-bumped}
use Rattle.book.proofs.Answers.{Ready, call-left}
use Rattle.book.proofs.DueMeans.{lower-at}

-- ---- what an answer of the book tells

pub record Accepts (dims : List ℕ) (book : Book) (a l : ℕ) : Type 0 where
  pub is-axis : a < length dims
  pub is-line : l < lines dims a
  pub unsolved : is_solved book a l ≡ false
  pub lower : lower_solved dims book a l ≡ true

pub book-accepts : (dims : List ℕ) (book : Book) (fed : Fed) → book_answer dims book fed ≡ 0 → Accepts dims book fed.axis fed.line
unfolding book_checks first_refusal is_due
book-accepts dims book fed e =
    let a : ℕ = fed.axis in
    let l : ℕ = fed.line in
    let s = scratch-passed (refuse 7 (not (is_line dims a l)) ∷ refuse 8 (is_solved book a l) ∷ refuse 9 (not (is_due dims book a l)) ∷ []) dims fed.scratch e in
    let t = three-passed (not (is_line dims a l)) (is_solved book a l) (not (is_due dims book a l)) s.1 in
    let r = is-line dims a l t.0 in
    let both = and_both (not (is_solved book a l)) (lower_solved dims book a l) (not-false (is_due dims book a l) t.2) in
    record { is-axis = r.0; is-line = r.1; unsolved = t.1; lower = both.1 }

-- ---- a line that is solved, and the others

pub solved-new : (book : Book) (a l : ℕ) → is_solved (record { axis = a; number = l } ∷ book) a l ≡ true
unfolding is_solved
solved-new book a l = rw (eq-eqb a a refl, eq-eqb l l refl)

pub solved-old : (book : Book) (a l b m : ℕ) → (a ≡ b → l ≢ m) → is_solved (record { axis = a; number = l } ∷ book) b m ≡ is_solved book b m
unfolding is_solved
solved-old book a l b m h =
    let other : eqb a b && eqb l m ≡ false =
    is_false (eqb a b && eqb l m) (λ t. let both = and_both (eqb a b) (eqb l m) t in h (eqb-true a b both.0) (eqb-true l m both.1)) in
    rw other

ltb_next : (a b : ℕ) → a ≢ b → ltb b a ≡ ltb b (a + 1)
ltb_next a b h =
    same_test (ltb b a) (ltb b (a + 1))
    (λ t. lt-ltb b (a + 1) (let z : b < a = ltb-true b a t in omega arith))
    (λ t. lt-ltb b a (let z : b < a + 1 = ltb-true b (a + 1) t in omega arith))

-- ---- what is given, and what is kept: through each cell the solved lines are those of the first axes, as many as its byte
-- says, and the cell has what the fit has there after that many

pub record Given {A : Type 0} (solve : ℕ → (ℕ → A) → ℕ → A) (dims : List ℕ) (samples : List A) : Type 0 where
  pub not-empty : NotEmpty dims
  pub looks : (a : ℕ) → a < length dims → Looks (solve a) (points dims a)
  pub as_many : length samples ≡ size dims

pub record Tied {A : Type 0} (o : A) (solve : ℕ → (ℕ → A) → ℕ → A) (dims : List ℕ) (samples : List A) (state : State A) (book : Book) : Type 0 where
  pub coefs-size : length state.coefs ≡ size dims
  pub ledger-size : length state.ledger ≡ size dims
  pub prefix : (a c : ℕ) → a < length dims → c < size dims → is_solved book a (line_at dims a c) ≡ ltb a (get_or state.ledger c 0)
  pub most : (c : ℕ) → c < size dims → get_or state.ledger c 0 ≤ length dims
  pub value : (c : ℕ) → c < size dims → get_or state.coefs c o ≡ get_or (fit_after o solve dims (get_or state.ledger c 0) samples) c o
  pub total : sum state.ledger ≡ solved_length dims book

module _ {A : Type 0} (o : A) (solve : ℕ → (ℕ → A) → ℕ → A) (dims : List ℕ) (samples : List A) (g : Given solve dims samples)
    (state : State A) (book : Book) (tied : Tied o solve dims samples state book) where
  -- ---- the tests on the bytes of a line are those of the book

  module _ (a l : ℕ) (ha : a < length dims) (hl : l < lines dims a) where
    cell_in : (i : ℕ) → i < points dims a → cell_at dims a l i < size dims
    cell_in i hi = cell_at-lt dims g.not-empty a ha l i hl hi

    above : any_below (byte_above a (first dims a l) (stride dims a) state.ledger) (points dims a) ≡ is_solved book a l
    above =
        any_same (byte_above a (first dims a l) (stride dims a) state.ledger) (points dims a) (is_solved book a l) (g.not-empty a ha)
        (λ i hi. sym (tied.prefix a (cell_at dims a l i) ha (cell_in i hi)) ∙ ap (is_solved book a) (line_at-cell_at dims g.not-empty a l i hi))

    lower-byte : (i : ℕ) → i < points dims a
        → all_below (λ b. is_solved book b (line_at dims b (cell_at dims a l i))) a ≡ not (byte_below a (first dims a l) (stride dims a) state.ledger i)
    lower-byte i hi =
        all-ext _ (λ b. ltb b (get_or state.ledger (cell_at dims a l i) 0)) a (λ b hb. tied.prefix b (cell_at dims a l i) (omega arith) (cell_in i hi))
        ∙ all-ltb a (get_or state.ledger (cell_at dims a l i) 0)

    below : lower_solved dims book a l ≡ not (any_below (byte_below a (first dims a l) (stride dims a) state.ledger) (points dims a))
    unfolding lower_solved
    below =
        all-ext _ _ (points dims a) lower-byte
        ∙ all-not (byte_below a (first dims a l) (stride dims a) state.ledger) (points dims a)

    due-alike : ◌≡◌ {A = ℕ}
        (cond (any_below (byte_above a (first dims a l) (stride dims a) state.ledger) (points dims a)) 8
        (cond (any_below (byte_below a (first dims a l) (stride dims a) state.ledger) (points dims a)) 9 0))
        (cond (is_solved book a l) 8 (cond (not (is_due dims book a l)) 9 0))
    unfolding is_due
    due-alike = rw (above, below) (go (is_solved book a l) (any_below (byte_below a (first dims a l) (stride dims a) state.ledger) (points dims a)))
      where
        go : (x y : Bool) → ◌≡◌ {A = ℕ} (cond x 8 (cond y 9 0)) (cond x 8 (cond (not (not x && not y)) 9 0))
        go true y = refl
        go false true = refl
        go false false = refl

  same_left : (call : Call A)
      → first_refusal (scratch_check dims (length call.scratch) ++ due_checks dims call.axis call.line state.ledger) ≡ book_answer dims book (fed_of call)
  unfolding book_checks first_refusal
  same_left call =
      rest (ltb (length call.scratch) (2 * longest dims)) 4
      (λ s. rest (not (is_line dims call.axis call.line)) 7
      (λ t. let r = is-line dims call.axis call.line t in due-alike call.axis call.line r.0 r.1))
    where
      rest : (t : Bool) (x : ℕ) {y z : ℕ} → (t ≡ false → y ≡ z) → cond t x y ≡ cond t x z
      rest true x f = refl
      rest false x f = f refl

  -- ---- an accepted call

  module _ (a l : ℕ) (acc : Accepts dims book a l) where
    -- each byte on the line is the axis's number
    byte-due : (c : ℕ) → c < size dims → line_at dims a c ≡ l → get_or state.ledger c 0 ≡ a
    byte-due c hc e =
        let n : ℕ = get_or state.ledger c 0 in
        let hi : n ≤ a = ltb-false a n (sym (tied.prefix a c acc.is-axis hc) ∙ ap (is_solved book a) e ∙ acc.unsolved) in
        let lo : n < a → ⊥ =
        λ h. let hn : n < length dims = omega (arith, acc.is-axis) in
        let z : n < n = ltb-true n n (sym (tied.prefix n c hn hc) ∙ lower-at dims g.not-empty book a l acc.is-axis acc.lower n c h e) in
        omega arith in
        tight n hi lo
      where
        tight : (n : ℕ) → n ≤ a → (n < a → ⊥) → n ≡ a
        tight n hi lo = let z : ¬ (n < a) = lo in omega arith

    new-state : State A
    new-state = record { coefs = solve_line o (solve a) (points dims a) (stride dims a) l state.coefs; ledger = bumped dims a l state.ledger }

    new-book : Book
    new-book = record { axis = a; number = l } ∷ book

    -- a cell of the line, and any other
    byte-on : (c : ℕ) → c < size dims → line_at dims a c ≡ l → get_or (bumped dims a l state.ledger) c 0 ≡ a + 1
    byte-on c hc e =
        bumped-on dims g.not-empty a l state.ledger acc.is-axis acc.is-line tied.ledger-size c e ∙ ap (λ (x : ℕ). x + 1) (byte-due c hc e)

    byte-off : (c : ℕ) → line_at dims a c ≢ l → get_or (bumped dims a l state.ledger) c 0 ≡ get_or state.ledger c 0
    byte-off c h = bumped-off dims g.not-empty a l state.ledger c h

    value_on : (c : ℕ) → c < size dims → line_at dims a c ≡ l
        → get_or (solve_line o (solve a) (points dims a) (stride dims a) l state.coefs) c o ≡ get_or (fit_after o solve dims (suc a) samples) c o
    value_on c hc e =
        let some : 0 < points dims a = g.not-empty a acc.is-axis in
        let last : cell_at dims a l (points dims a - 1) < length state.coefs = rw tied.coefs-size (cell_at-lt dims g.not-empty a acc.is-axis l (points dims a - 1) acc.is-line (omega arith)) in
        solved-on o (solve a) (points dims a) (stride dims a) (stride-pos dims g.not-empty a) l state.coefs c some last e
        ∙ g.looks a acc.is-axis (along o dims a l state.coefs) (along o dims a l (fit_after o solve dims a samples))
        (λ i hi. let hx : cell_at dims a l i < size dims = cell_at-lt dims g.not-empty a acc.is-axis l i acc.is-line hi in
        tied.value (cell_at dims a l i) hx
        ∙ ap (λ (m : ℕ). get_or (fit_after o solve dims m samples) (cell_at dims a l i) o)
        (byte-due (cell_at dims a l i) hx (line_at-cell_at dims g.not-empty a l i hi)))
        (place_at dims a c) (place_at-lt dims g.not-empty a acc.is-axis c)
        ∙ ap (λ (m : ℕ). solve a (along o dims a m (fit_after o solve dims a samples)) (place_at dims a c)) (sym e)
        ∙ sym (fit-step o solve dims g.not-empty g.looks samples g.as_many a acc.is-axis c hc)

    value-off : (c : ℕ) → line_at dims a c ≢ l → get_or (solve_line o (solve a) (points dims a) (stride dims a) l state.coefs) c o ≡ get_or state.coefs c o
    value-off c h = solved-off o (solve a) (points dims a) (stride dims a) (stride-pos dims g.not-empty a) l state.coefs c h

    prefix-on : (b c : ℕ) → b < length dims → c < size dims → line_at dims a c ≡ l → is_solved new-book b (line_at dims b c) ≡ ltb b (a + 1)
    unfolding new-book
    prefix-on b c hb hc e = go (ℕ_discrete a b)
      where
        go : Dec (a ≡ b) → is_solved (record { axis = a; number = l } ∷ book) b (line_at dims b c) ≡ ltb b (a + 1)
        go (yes q) =
            ap (λ (x : ℕ). is_solved (record { axis = a; number = l } ∷ book) x (line_at dims x c)) (sym q)
            ∙ ap (is_solved (record { axis = a; number = l } ∷ book) a) e
            ∙ solved-new book a l
            ∙ sym (lt-ltb b (a + 1) (omega arith))
        go (no q) =
            solved-old book a l b (line_at dims b c) (λ r. absurd (q r))
            ∙ tied.prefix b c hb hc
            ∙ ap (ltb b) (byte-due c hc e)
            ∙ ltb_next a b q

    prefix-off : (b c : ℕ) → line_at dims a c ≢ l → is_solved new-book b (line_at dims b c) ≡ is_solved book b (line_at dims b c)
    unfolding new-book
    prefix-off b c h = solved-old book a l b (line_at dims b c) (λ r s. h (ap (λ (x : ℕ). line_at dims x c) r ∙ sym s))

    total-book : solved_length dims new-book ≡ solved_length dims book + points dims a
    unfolding solved_length new-book
    total-book =
        sum_below-one _ _ (length dims) a (points dims a) acc.is-axis
        (sum_below-one _ _ (lines dims a) l (points dims a) acc.is-line
        (rw (solved-new book a l, acc.unsolved) (omega arith))
        (λ m hm h. rw (solved-old book a l a m (λ r s. h (sym s)))))
        (λ b hb h. sum_below-ext _ _ (lines dims b) (λ m hm. rw (solved-old book a l b m (λ r s. h (sym r)))))

    next : Tied o solve dims samples new-state new-book
    unfolding new-state
    next = record {
      coefs-size = length-solve_line o (solve a) (points dims a) (stride dims a) l state.coefs ∙ tied.coefs-size;
      ledger-size = length-bumped dims a l state.ledger ∙ tied.ledger-size;
      prefix = λ b c hb hc. pre b c hb hc (ℕ_discrete (line_at dims a c) l);
      most = λ c hc. mst c hc (ℕ_discrete (line_at dims a c) l);
      value = λ c hc. val c hc (ℕ_discrete (line_at dims a c) l);
      total = sum-bumped dims g.not-empty a l state.ledger acc.is-axis acc.is-line tied.ledger-size ∙ ap (λ (x : ℕ). x + points dims a) tied.total ∙ sym total-book;
    }
      where
        pre : (b c : ℕ) → b < length dims → c < size dims → Dec (line_at dims a c ≡ l) → is_solved new-book b (line_at dims b c) ≡ ltb b (get_or (bumped dims a l state.ledger) c 0)
        pre b c hb hc (yes e) = prefix-on b c hb hc e ∙ ap (ltb b) (sym (byte-on c hc e))
        pre b c hb hc (no h) = prefix-off b c h ∙ tied.prefix b c hb hc ∙ ap (ltb b) (sym (byte-off c h))

        mst : (c : ℕ) → c < size dims → Dec (line_at dims a c ≡ l) → get_or (bumped dims a l state.ledger) c 0 ≤ length dims
        mst c hc (yes e) = rw (byte-on c hc e) (omega (arith, acc.is-axis))
        mst c hc (no h) = rw (byte-off c h) (tied.most c hc)

        val : (c : ℕ) → c < size dims → Dec (line_at dims a c ≡ l)
            → get_or (solve_line o (solve a) (points dims a) (stride dims a) l state.coefs) c o ≡ get_or (fit_after o solve dims (get_or (bumped dims a l state.ledger) c 0) samples) c o
        val c hc (yes e) = value_on c hc e ∙ ap (λ (m : ℕ). get_or (fit_after o solve dims m samples) c o) (sym (byte-on c hc e ∙ add-one a))
        val c hc (no h) = value-off c h ∙ tied.value c hc ∙ ap (λ (m : ℕ). get_or (fit_after o solve dims m samples) c o) (sym (byte-off c h))

-- ---- any call

module _ {A : Type 0} (o : A) (solve : ℕ → (ℕ → A) → ℕ → A) (count : ℕ) (lens : List ℕ) (grid knots : List Check) (pg : Positive grid) (pk : Positive knots)
    (ready : Ready count lens grid knots) (samples : List A) (g : Given solve (take count lens) samples)
    (state : State A) (book : Book) (tied : Tied o solve (take count lens) samples state book) (call : Call A) where
  pub same_answer : call_answer count lens grid knots call state ≡ book_answer (take count lens) book (fed_of call)
  same_answer = call-left count lens grid knots pg pk call state ready tied.coefs-size tied.ledger-size ∙ same_left o solve (take count lens) samples g state book tied call

  pub tied-next : Tied o solve (take count lens) samples (line_call count lens grid knots o solve call state) (book_call (take count lens) (fed_of call) book)
  unfolding line_call book_call next new-state new-book
  tied-next = rw same_answer (go (eqb (book_answer (take count lens) book (fed_of call)) 0) refl)
    where
      go : (t : Bool) → eqb (book_answer (take count lens) book (fed_of call)) 0 ≡ t
          → Tied o solve (take count lens) samples
          (cond t
          (record {
            coefs = solve_line o (solve call.axis) (points (take count lens) call.axis) (stride (take count lens) call.axis) call.line state.coefs;
            ledger = bumped (take count lens) call.axis call.line state.ledger;
          })
          state)
          (cond t (record { axis = call.axis; number = call.line } ∷ book) book)
      go true e = next o solve (take count lens) samples g state book tied call.axis call.line (book-accepts (take count lens) book (fed_of call) (eqb-true _ 0 e))
      go false e = tied
