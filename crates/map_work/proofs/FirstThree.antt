-- The first three lines. Assumes nothing.
use mathlib.Core.Path.{◌≡◌, refl, sym, ap, ◌∙◌}
use mathlib.Core.Bool.{Bool, true, false, cond, ◌||◌}
use mathlib.Core.List.{List, [], ◌∷◌, ◌++◌, append-nil}
use Prim.Native.Nat.{ℕ, ◌+◌, ◌*◌, ◌≤◌, ◌<◌}
use native.Mathlib.Omega.{arith}
use lib.Dec.{eqb, ltb}
use lib.ListN.{length, take, length-append}
use lib.Ieee.{Float, binary64}
use borrow.Author.Tests.{ne_eqb, lt-ltb, le-ltb, ltb-true, ltb-false}
use Rattle.std.specs.Prelude.{Option, Some, None, MatchOption}
use Rattle.shape.specs.Refusal.{refusal_number}
use Rattle.shape.specs.declared.answers.Refusal.{Refusal}
use Rattle.shape.specs.Shape.{size}
use Rattle.shape.specs.Checks.{first_refusal, any_short, limit_checks, shape_checks, most_points}
use Rattle.shape.specs.Sizes.{coeff_storage_len}
use Rattle.shape.specs.Usable.{Usable}
use Rattle.shape.proofs.Accepted.{usable, axes-are, storage-is, longest-le, usable-not-empty, points-are, refusal-suc}
use Rattle.knots.specs.Joined.{total}
use Rattle.knots.proofs.Totals.{total-le-size}
use Rattle.regular_map.specs.Map as Regular
use Rattle.rectilinear_map.specs.Map as Rectilinear
use Rattle.map_fields.specs.Fields.{lines, fields, row_in, rest, room_of}
use Rattle.map_fields.specs.Head.{Head, head_in, lengths_in, HeadRead}
use Rattle.map_fields.specs.Records.{head_of}
use Rattle.map_fields.specs.declared.head.FirstLine.{FirstLine}
use Rattle.map_fields.proofs.FloatRows.{row-long, room-lines}
use Rattle.map_print.specs.Print.{Wrote, unreadable_line, map_line}
use Rattle.map_print.proofs.Printing.{Wrote-then, grown}
use Rattle.map_spline.specs.Surface.{Surface, regular_of, rectilinear_of, row_length, surface, Lent, Makes}
use Rattle.map_spline.proofs.Making.{made-is}
use Rattle.map_spline.proofs.Digits.{map-digit, shape-digit}
use Rattle.map_work.specs.Program.{queries, fitted, third, second, shape_number, shaped, first, program}
use Rattle.map_work.specs.Steps.{Ready, Kept, Shaped, from_shape}

-- ---- line 2 and line 3

-- the axes of the map are those of line 1
axes-of : (h : Head) (row samples : List Float) → (surface binary64 h row samples).spline.axes ≡ length h.dims
unfolding surface Regular.made Rectilinear.made
axes-of h row samples = go h.regular
  where
    go : (t : Bool) → (cond t (regular_of binary64 h.linear h.dims row samples) (rectilinear_of binary64 h.linear h.dims row samples)).spline.axes ≡ length h.dims
    go true = refl
    go false = refl

module _ (ls ms : List (List ℕ)) (k : ℕ) (got : List Float) (r : row_in k ls ≡ Some got) (a : ms ≡ rest ls) where
  pub ready-next : {axes n size : ℕ} → Ready ls axes n size → Ready ms axes n size
  ready-next h = let l : 17 * k + room_of ms ≤ room_of ls = rw a (row-long k ls got r) in record { some-axis = h.some-axis; at-most-four = h.at-most-four; short = omega (arith, h.short, l); room = omega (arith, h.room, l) }

  module _ (head : Head) (old new : List ℕ) where
    pub row_read : k ≡ row_length head → Wrote old (third head got ms) new → Wrote old (second head ls) new
    unfolding second
    row_read e w = rw (← e, r, ← a) w

    pub samples-read : (row : List Float) → k ≡ size head.dims → Wrote old (fitted head row got ms) new → Wrote old (third head row ls) new
    unfolding third
    samples-read row e w = rw (← e, r, ← a) w

module _ (head : Head) (ls : List (List ℕ)) (k : ℕ) (r : row_in k ls ≡ None) (old new : List ℕ) where
  pub row-unread : k ≡ row_length head → Wrote old (unreadable_line 2) new → Wrote old (second head ls) new
  unfolding second
  row-unread e w = rw (← e, r) w

  pub samples-unread : (row : List Float) → k ≡ size head.dims → Wrote old (unreadable_line 3) new → Wrote old (third head row ls) new
  unfolding third
  samples-unread row e w = rw (← e, r) w

-- ---- the map

module _ (head : Head) (row samples coefs : List Float) (s : Surface) where
  module _ (refusal : Refusal) (f : Makes head row samples coefs (refusal_number refusal) s) (number : ℕ) (n : number ≡ refusal_number refusal) where
    -- M's number has one digit
    pub number-digit : number < 10
    number-digit = rw (n, f.answers) (map-digit head row)

    pub map-refused : (ls : List (List ℕ)) (old new : List ℕ) → Wrote old (map_line number) new → Wrote old (fitted head row samples ls) new
    unfolding fitted
    map-refused ls old new w =
        let above = refusal-suc refusal in
        rw (← f.answers, ← n, ne_eqb number 0 (λ z. omega (arith, n, z, above)), append-nil (map_line number)) w

  pub map-run : Makes head row samples coefs 0 s → (ls : List (List ℕ)) (old mid new : List ℕ) → Wrote old (map_line 0) mid → Wrote mid (queries s 0 0 ls) new
      → Wrote old (fitted head row samples ls) new
  unfolding fitted
  map-run f ls old mid new w t = rw (← f.answers, ← made-is f) (Wrote-then w t)

-- the axes of a map that is not refused are as many as line 1 says
pub made-axes : (line : FirstLine) → Shaped line → (row samples coefs : List Float) (s : Surface) → Makes (head_of line) row samples coefs 0 s → line.count ≡ s.spline.axes
made-axes line u row samples coefs s f =
    sym (ap (λ (t : Surface). t.spline.axes) (made-is f) ∙ axes-of (head_of line) row samples ∙ axes-are line.count line.dims u.four u.usable)

-- the room behind M
pub ready-run : {ls : List (List ℕ)} {axes size : ℕ} {old new : List ℕ} (number : ℕ) → Ready ls axes (length old + 4) size → Wrote old (map_line number) new → Ready ls axes (length new) size
unfolding map_line
ready-run number h w = record { some-axis = h.some-axis; at-most-four = h.at-most-four; short = h.short; room = omega (arith, h.room, grown w) }

-- ---- the shape

module _ (count : ℕ) (lens : List ℕ) (n : ℕ) (e : n ≡ first_refusal (shape_checks count lens)) where
  -- the library's refusal of a shape is the program's
  pub limit-refused : (n ≡ 0 → ⊥) → n ≡ first_refusal (limit_checks 512 count (take count lens))
  unfolding first_refusal
  limit-refused u = go (eqb count 0 || ltb 4 count) (any_short (take count lens)) (ltb most_points (size (take count lens))) (ltb 512 (size (take count lens))) refl refl e
    where
      go : (a b c d : Bool) → ltb most_points (size (take count lens)) ≡ c → ltb 512 (size (take count lens)) ≡ d → n ≡ cond a 1 (cond b 2 (cond c 3 0))
          → n ≡ cond a 1 (cond b 2 (cond d 3 0))
      go true b c d x y q = q
      go false true c d x y q = q
      go false false true true x y q = q
      go false false true false x y q = absurd (let z : ⊥ = omega (arith, ltb-true most_points (size (take count lens)) x, ltb-false 512 (size (take count lens)) y) in z)
      go false false false d x y q = absurd (u q)

  module _ (z : n ≡ 0) (cells : ℕ) (k : cells ≡ coeff_storage_len count lens) where
    ok : first_refusal (shape_checks count lens) ≡ 0
    ok = sym e ∙ z

    many : cells ≡ size (take count lens)
    many = k ∙ storage-is count lens ok

    passed : (t : Bool) → ltb 512 (size (take count lens)) ≡ t → first_refusal (limit_checks 512 count (take count lens)) ≡ cond t 3 0
    unfolding first_refusal
    passed t d = go (eqb count 0 || ltb 4 count) (any_short (take count lens)) (ltb most_points (size (take count lens))) ok
      where
        go : (a b c : Bool) → ◌≡◌ {A = ℕ} (cond a 1 (cond b 2 (cond c 3 0))) 0 → ◌≡◌ {A = ℕ} (cond a 1 (cond b 2 (cond (ltb 512 (size (take count lens))) 3 0))) (cond t 3 0)
        go true b c q = absurd (let y : ⊥ = omega (arith, q) in y)
        go false true c q = absurd (let y : ⊥ = omega (arith, q) in y)
        go false false c q = rw d

    pub limit-over : 512 < cells → ◌≡◌ {A = ℕ} 3 (first_refusal (limit_checks 512 count (take count lens)))
    limit-over l = sym (passed true (lt-ltb 512 (size (take count lens)) (rw (← many) l)))

    pub limit-passed : cells ≤ 512 → ◌≡◌ {A = ℕ} 0 (first_refusal (limit_checks 512 count (take count lens)))
    limit-passed l = sym (passed false (le-ltb 512 (size (take count lens)) (rw (← many) l)))

-- a shape that is not refused
pub limit-usable : (line : FirstLine) → length line.dims ≡ 4 → first_refusal (limit_checks 512 line.count (head_of line).dims) ≡ 0 → Shaped line
unfolding first_refusal
limit-usable line four e =
    let count = line.count in
    let lens = line.dims in
    go count lens (λ u s. record { usable = u; four = four; small = s }) four
    (eqb count 0 || ltb 4 count) (any_short (take count lens)) (ltb 512 (size (take count lens))) refl refl refl e
  where
    go : (count : ℕ) (lens : List ℕ) → (Usable count lens → size (take count lens) ≤ 512 → Shaped line) → length lens ≡ 4
        → (a b d : Bool) → eqb count 0 || ltb 4 count ≡ a → any_short (take count lens) ≡ b → ltb 512 (size (take count lens)) ≡ d → ◌≡◌ {A = ℕ} (cond a 1 (cond b 2 (cond d 3 0))) 0
        → Shaped line
    go count lens made four true b d x y w q = absurd (let z : ⊥ = omega (arith, q) in z)
    go count lens made four false true d x y w q = absurd (let z : ⊥ = omega (arith, q) in z)
    go count lens made four false false true x y w q = absurd (let z : ⊥ = omega (arith, q) in z)
    go count lens made four false false false x y w q =
        let small : size (take count lens) ≤ 512 = ltb-false 512 (size (take count lens)) w in
        made (usable count lens four (rw (x, y, le-ltb most_points (size (take count lens)) (omega arith)))) small

-- the floats of line 2, and the lengths that building the map wants
module _ (line : FirstLine) (shaped : Shaped line) where
  abbrev count : ℕ
  count = line.count

  abbrev lens : List ℕ
  lens = line.dims

  abbrev u : Usable count lens
  u = shaped.usable

  abbrev four : length lens ≡ 4
  four = shaped.four

  row_is : (t : Bool) → line.regular ≡ t → row_length (head_of line) ≡ cond t (2 * count) (total (take count lens))
  unfolding row_length
  row_is t e = rw (e, axes-are count lens four u)

  pub row-regular : line.regular ≡ true → 2 * count ≡ row_length (head_of line)
  row-regular t = sym (row_is true t)

  pub row-rectilinear : line.regular ≡ false → total (take count lens) ≡ row_length (head_of line)
  row-rectilinear t = sym (row_is false t)

  pub row_small : row_length (head_of line) ≤ 512
  row_small = go line.regular refl
    where
      go : (t : Bool) → line.regular ≡ t → row_length (head_of line) ≤ 512
      go true e = omega (arith, row_is true e, u.at-most-four)
      go false e =
          let t = total-le-size (take count lens) (λ a h. let l : a < count = rw (axes-are count lens four u) at h in rw (points-are count lens four u a l) (u.four-points a l)) in
          omega (arith, row_is false e, t, shaped.small)

  pub lent : {row samples coefs : ℕ} → row ≡ row_length (head_of line) → samples ≡ size (head_of line).dims → coefs ≡ size (head_of line).dims
      → Lent count lens (row_length (head_of line)) row samples coefs 1024
  lent r s c = record {
    shape = u;
    four = four;
    row_is = r;
    samples-are = s;
    coefs-are = c;
    scratch-room = omega (arith, longest-le (take count lens) (usable-not-empty count lens four u), shaped.small);
  }

-- the shape, as the code finds it
pub ready-first : {ls : List (List ℕ)} (n size : ℕ) (line : FirstLine) → Shaped line → (room_of ls ≤ 32769) × (n + 3 * room_of ls + 132 ≤ size) → Ready ls line.count (n + 4) size
ready-first n size line shape room = record { some-axis = shape.usable.some-axis; at-most-four = shape.usable.at-most-four; short = room.0; room = omega (arith, room.1) }

module _ (h : Head) (count : ℕ) (ls : List (List ℕ)) (old new : List ℕ) where
  pub shape-read : first_refusal (limit_checks 512 count h.dims) ≡ 0 → Wrote old (second h ls) new → Wrote old (from_shape h count ls) new
  shape-read e w = rw e w

  module _ (refusal : Refusal) (e : first_refusal (limit_checks 512 count h.dims) ≡ refusal_number refusal) (number : ℕ) (n : number ≡ refusal_number refusal) where
    pub shape-number-digit : number < 10
    shape-number-digit = rw (n, ← e) (shape-digit 512 count h.dims)

    pub shape-refused : Wrote old (map_line number) new → Wrote old (from_shape h count ls) new
    shape-refused w = let above = refusal-suc refusal in rw (e, ← n, ne_eqb number 0 (λ z. omega (arith, n, z, above))) w

-- ---- line 1

-- a shape of more than four axes is refused, whatever lengths were kept
shape_is : (regular linear : Bool) (count : ℕ) (four ds : List ℕ) (ls : List (List ℕ)) → count ≡ length ds → (count ≤ 4 → take count four ≡ ds)
    → from_shape (record { regular = regular; linear = linear; dims = take count four }) count ls ≡ shaped (record { regular = regular; linear = linear; dims = ds }) ls
unfolding shaped shape_number first_refusal
shape_is regular linear count four ds ls e f = go (ltb 4 count) refl
  where
    go : (t : Bool) → ltb 4 count ≡ t → from_shape (record { regular = regular; linear = linear; dims = take count four }) count ls ≡ shaped (record { regular = regular; linear = linear; dims = ds }) ls
    go true q =
        let l = ltb-true 4 count q in
        let no : eqb count 0 ≡ false = ne_eqb count 0 (λ z. omega arith) in
        rw (← e, q, no)
    go false q = rw (f (ltb-false 4 count q), ← e)

module _ {ls ms : List (List ℕ)} where
  pub no-line : (ls ≡ []) × (ms ≡ []) → first ls ≡ unreadable_line 1
  unfolding first
  no-line e = rw e.0

  module _ {l : List ℕ} (e : ls ≡ l ∷ ms) where
    bad-line : head_in (fields l) ≡ None → first ls ≡ unreadable_line 1
    unfolding first
    bad-line h = rw (e, h)

    good-line : (line : FirstLine) → HeadRead (fields l) line → (first ls ≡ from_shape (head_of line) line.count ms) × (room_of ms < room_of ls)
    unfolding first room_of
    good-line line h =
        (rw (e, h.head) (sym (shape_is line.regular line.linear line.count line.dims (lengths_in (fields l)) ms h.lengths.axes h.lengths.kept)), rw e (omega arith))

    pub line-read : (o : Option FirstLine) → MatchOption o (head_in (fields l) ≡ None) (HeadRead (fields l))
        → MatchOption o (first ls ≡ unreadable_line 1) (λ line. (first ls ≡ from_shape (head_of line) line.count ms) × (room_of ms < room_of ls))
    line-read None h = bad-line h
    line-read (Some line) h = good-line line h

-- ---- the whole

module _ (input spare : List ℕ) (k : Kept (length input) (length spare)) (page new : List ℕ) (clear : page ≡ []) where
  alone : {text : List ℕ} → Wrote page text new → new ≡ text
  alone {text} w = w.text ∙ ap (λ (l : List ℕ). l ++ text) clear

  pub too_long : 0 < length spare → Wrote page (unreadable_line 0) new → new ≡ program (input ++ spare)
  unfolding program
  too_long l w =
      let many : 32768 < length (input ++ spare) = rw length-append (omega (arith, k.full l)) in
      rw (lt-ltb 32768 (length (input ++ spare)) many) (alone w)

  module _ (none : length spare ≤ 0) where
    whole : input ++ spare ≡ input
    whole = go spare none
      where
        go : (t : List ℕ) → length t ≤ 0 → input ++ t ≡ input
        go [] l = append-nil input
        go (b ∷ bs) l = absurd (let z : ⊥ = omega arith in z)

    pub worked : {ls : List (List ℕ)} {text : List ℕ} → ls ≡ lines input → first ls ≡ text → Wrote page text new → new ≡ program (input ++ spare)
    unfolding program
    worked e f w = rw (whole, le-ltb 32768 (length input) k.most, ← e, f) (alone w)

-- the room for what is printed of an input that is not too long
pub room-first : (input spare page : List ℕ) (ls ms : List (List ℕ)) (size : ℕ) → Kept (length input) (length spare) × (98440 ≤ size) → page ≡ [] → ls ≡ lines input → room_of ms < room_of ls
    → (room_of ms ≤ 32769) × (length page + 3 * room_of ms + 132 ≤ size)
room-first input spare page ls ms size k clear e l =
    let n : room_of ls ≤ length input + 1 = rw e (omega (arith, room-lines input)) in
    let z : length page ≡ 0 = ap length clear in
    (omega (arith, k.0.most), omega (arith, k.0.most, k.1))
