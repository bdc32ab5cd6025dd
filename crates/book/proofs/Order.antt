-- Demand 3: from what an accepted begin leaves, any list of line calls answers as the book does, and leaves what the book says.
-- Assumes nothing.
use mathlib.Core.Path.{◌≡◌, refl, sym, ap, ap₂, ◌∙◌}
use mathlib.Core.List.{List, [], ◌∷◌}
use Prim.Native.Nat.{ℕ, ◌<◌}
use native.Mathlib.Nat.{min-eq_right}
use native.Mathlib.Omega.{arith}
use lib.ListN.{length, get_or, take, replicate, length-replicate, get_or-replicate}
use lib.Seq.{ext_get_or}
use lib.Dec.{ltb}
use borrow.Author.Tests.{le-ltb}
use Rattle.shape.specs.Shape.{size, NotEmpty, lines, cell_at, line_at}
use Rattle.shape.specs.Checks.{Check, Positive}
use Rattle.shape.specs.Usable.{Usable}
use Rattle.shape.specs.Fit.{fit_after, fit}
use Rattle.shape.proofs.Accepted.{usable, axes-are, usable-not-empty, room}
use Rattle.shape.proofs.Radix.{line_at-cell_at, cell_at-lt, line_at-lt}
use Rattle.shape.proofs.Fit.{length-fit_after}
use Rattle.book.specs.LineCall.{Call, State, call_answer, line_call, after, answers, begun}
use Rattle.book.specs.Book.{Book, is_solved, book_answer, book_call, book_after, book_answers, solved_through, solved_length}
use Rattle.book.specs.Order.{fed_of, fed_list, AllSolved, Agrees, Claim, OrderNeverShows, SameEnd}
use Rattle.shape.proofs.Below.{count-ext, count-ltb, count-all, count-full, sum_below-zero}
use Rattle.book.proofs.Bytes.{sum_zeros}
use Rattle.book.proofs.Answers.{Ready, begin-passed}
use Rattle.book.proofs.DueMeans.{all-or-due}
use Rattle.book.proofs.OneCall.{Given, Tied, same_answer, tied-next}

-- ---- all lines are solved where as many solved lines run through each cell as there are axes

module _ (dims : List ℕ) (ne : NotEmpty dims) (book : Book) where
  through-all : AllSolved dims book → (c : ℕ) → c < size dims → solved_through dims book c ≡ length dims
  unfolding solved_through
  through-all f c hc = count-all _ (length dims) (λ a ha. f a (line_at dims a c) ha (line_at-lt dims ne a ha c hc))

  all-through : ((c : ℕ) → c < size dims → solved_through dims book c ≡ length dims) → AllSolved dims book
  unfolding solved_through
  all-through f a l ha hl =
      let c : ℕ = cell_at dims a l 0 in
      let hc : c < size dims = cell_at-lt dims ne a ha l 0 hl (ne a ha) in
      ap (is_solved book a) (sym (line_at-cell_at dims ne a l 0 (ne a ha))) ∙ count-full _ (length dims) (f c hc) a ha

module _ {A : Type 0} (o : A) (solve : ℕ → (ℕ → A) → ℕ → A) (dims : List ℕ) (samples : List A) (g : Given solve dims samples) where
  -- ---- the start

  none_yet : (c : ℕ) → c < size dims → ◌≡◌ {A = ℕ} (get_or (replicate (size dims) 0) c 0) 0
  none_yet c hc = get_or-replicate {A = ℕ} (size dims) c 0 0 hc

  start : Tied o solve dims samples (begun dims samples) []
  unfolding is_solved fit_after solved_length
  start = record {
    coefs-size = g.as_many;
    ledger-size = length-replicate (size dims) 0;
    prefix = λ a c ha hc. sym (le-ltb a _ (omega (arith, none_yet c hc)));
    most = λ c hc. omega (arith, none_yet c hc);
    value = λ c hc. rw (none_yet c hc);
    total = sum_zeros (size dims) ∙ sym (sum_below-zero _ (length dims) (λ a ha. sum_below-zero _ (lines dims a) (λ l hl. refl)));
  }

  -- ---- what is kept says what is claimed

  module _ (state : State A) (book : Book) (tied : Tied o solve dims samples state book) where
    byte-through : (c : ℕ) → c < size dims → get_or state.ledger c 0 ≡ solved_through dims book c
    unfolding solved_through
    byte-through c hc =
        sym (count-ext _ (λ a. ltb a (get_or state.ledger c 0)) (length dims) (λ a ha. tied.prefix a c ha hc)
        ∙ count-ltb (length dims) (get_or state.ledger c 0)
        ∙ min-eq_right (tied.most c hc))

    value_after : (c m : ℕ) → c < size dims → get_or state.ledger c 0 ≡ m → get_or state.coefs c o ≡ get_or (fit_after o solve dims m samples) c o
    value_after c m hc e = tied.value c hc ∙ ap (λ (k : ℕ). get_or (fit_after o solve dims k samples) c o) e

    pub agree : Agrees o solve dims samples state book
    agree = record {
      value = λ c hc. value_after c (solved_through dims book c) hc (byte-through c hc);
      byte = byte-through;
      every_byte = (
        (λ f c hc. byte-through c hc ∙ through-all dims g.not-empty book f c hc),
        (λ f. all-through dims g.not-empty book (λ c hc. sym (byte-through c hc) ∙ f c hc)),
      );
      finished = λ f.
          ext_get_or o state.coefs (fit o solve dims samples) (tied.coefs-size ∙ sym (length-fit_after o solve dims (length dims) samples ∙ g.as_many))
          (λ c hc. let hc' : c < size dims = rw tied.coefs-size at hc in
          value_after c (length dims) hc' (byte-through c hc' ∙ through-all dims g.not-empty book f c hc'));
      unfinished = all-or-due dims g.not-empty book;
      ledger-sum = tied.total;
      coefs-size = tied.coefs-size;
      ledger-size = tied.ledger-size;
    }

-- ---- the list

module _ {A : Type 0} (o : A) (solve : ℕ → (ℕ → A) → ℕ → A) (count : ℕ) (lens : List ℕ) (grid knots : List Check) (pg : Positive grid) (pk : Positive knots)
    (ready : Ready count lens grid knots) (samples : List A) (g : Given solve (take count lens) samples) where
  same : (calls : List (Call A)) (state : State A) (book : Book) → Tied o solve (take count lens) samples state book
      → answers count lens grid knots o solve calls state ≡ book_answers (take count lens) (fed_list calls) book
  unfolding answers book_answers
  same [] state book tied = refl
  same (call ∷ calls) state book tied =
      let e₁ : call_answer count lens grid knots call state ≡ book_answer (take count lens) book (fed_of call) = same_answer o solve count lens grid knots pg pk ready samples g state book tied call in
      let e₂ : answers count lens grid knots o solve calls (line_call count lens grid knots o solve call state) ≡ book_answers (take count lens) (fed_list calls) (book_call (take count lens) (fed_of call) book) =
      same calls _ _ (tied-next o solve count lens grid knots pg pk ready samples g state book tied call) in
      cc

  kept : (calls : List (Call A)) (state : State A) (book : Book) → Tied o solve (take count lens) samples state book
      → Tied o solve (take count lens) samples (after count lens grid knots o solve calls state) (book_after (take count lens) (fed_list calls) book)
  unfolding after book_after
  kept [] state book tied = tied
  kept (call ∷ calls) state book tied = kept calls _ _ (tied-next o solve count lens grid knots pg pk ready samples g state book tied call)

  claim : (calls : List (Call A)) → Claim o solve count lens grid knots samples calls
  claim calls =
      let t = start o solve (take count lens) samples g in
      record {
        same-answers = same calls (begun (take count lens) samples) [] t;
        agrees = agree o solve (take count lens) samples g _ _ (kept calls (begun (take count lens) samples) [] t);
      }

pub order-never-shows : OrderNeverShows
order-never-shows A o solve count lens grid knots four pg pk looks samples coefs ledger scratch e calls =
    let p = begin-passed count lens grid knots pg pk (length samples) coefs ledger scratch e in
    let u : Usable count lens = usable count lens four p.ready.shape-passed in
    let axes : length (take count lens) ≡ count = axes-are count lens four u in
    claim o solve count lens grid knots pg pk p.ready samples
    (record {
      not-empty = usable-not-empty count lens four u;
      looks = λ a ha. let ha' : a < count = rw axes at ha in looks a ha' (room count lens four u a ha').four-points;
      as_many = p.samples-size;
    })
    calls

-- ---- two orders

pub same_end : SameEnd
unfolding solved_through
same_end A o solve dims ne samples state state' book book' w w' same =
    let through : (c : ℕ) → c < size dims → solved_through dims book c ≡ solved_through dims book' c =
    λ c hc. count-ext _ _ (length dims) (λ a ha. same a (line_at dims a c) ha (line_at-lt dims ne a ha c hc)) in
    let coefs : state.coefs ≡ state'.coefs =
    ext_get_or o state.coefs state'.coefs (w.coefs-size ∙ sym w'.coefs-size)
    (λ c h. let hc : c < size dims = rw w.coefs-size at h in
    w.value c hc ∙ ap (λ (m : ℕ). get_or (fit_after o solve dims m samples) c o) (through c hc) ∙ sym (w'.value c hc)) in
    let ledger : state.ledger ≡ state'.ledger =
    ext_get_or 0 state.ledger state'.ledger (w.ledger-size ∙ sym w'.ledger-size)
    (λ c h. let hc : c < size dims = rw w.ledger-size at h in
    w.byte c hc ∙ through c hc ∙ sym (w'.byte c hc)) in
    ap₂ (λ (xs : List A) (bytes : List ℕ). record { coefs = xs; ledger = bytes }) coefs ledger
