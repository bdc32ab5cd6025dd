-- When a shape is accepted, what that gives of each axis, and how a refusal of the shape carries to longer lists of checks.
-- Assumes nothing.
use mathlib.Core.Path.{◌≡◌, refl, sym, ap, ◌∙◌}
use mathlib.Core.Bool.{Bool, true, false, cond, ◌&&◌, ◌||◌}
use mathlib.Core.List.{List, [], ◌∷◌, ◌++◌}
use Prim.Native.Nat.{ℕ, zero, suc, ◌+◌, ◌*◌, ◌-◌, ◌≤◌, ◌<◌}
use native.Mathlib.Nat.{mul-pos, le-mul_of_pos_right, mul-le-mul_right, mul-le-mul_left, not-suc-le-zero, le_of_suc-le-suc}
use native.Mathlib.Numerals.{add-one}
use native.Mathlib.Omega.{arith}
use lib.Dec.{eqb, ltb}
use lib.ListN.{length, get_or, take, drop}
use lib.Seq.{length-take-le, get_or-take, take-take}
use Rattle.std.proofs.lemmas.List.{drop-take}
use borrow.Author.Tests.{ltb-false, lt-ltb, le-ltb, eqb-false, ne_eqb, eq-eqb}
use Rattle.shape.specs.Shape.{product, longest, size, points, NotEmpty, stride, lines, first}
use Rattle.shape.specs.Refusal.{refusal_number}
use Rattle.shape.specs.declared.answers.Refusal.{Refusal}
use Rattle.shape.specs.declared.answers.Refusal.TheVariants.{AxisCount, DimensionMismatch, TooManyPoints, ScratchTooSmall, NotIncreasing, Unrepresentable, NoSuchLine, AlreadySolved, NotDue}
use Rattle.shape.specs.Checks.{Check, first_refusal, any_short, most_points, shape_checks, shape_accepted, Positive}
use Rattle.shape.specs.Usable.{Usable, LinesWithin}
use Rattle.shape.specs.Sizes.{coeff_storage_len, construction_scratch_len, stride_of, lines_of}
use Rattle.shape.proofs.Lengths.{or-false}
use Rattle.shape.proofs.Checks.{check-passed}
use Rattle.shape.proofs.Radix.{product-pos, stride-pos, span_pos, cut, cell_at-lt}

-- ---- lists of checks

-- a refusal has a number above 0
pub refusal-suc : (r : Refusal) → refusal_number r ≡ suc (refusal_number r - 1)
refusal-suc AxisCount = refl
refusal-suc DimensionMismatch = refl
refusal-suc TooManyPoints = refl
refusal-suc ScratchTooSmall = refl
refusal-suc NotIncreasing = refl
refusal-suc Unrepresentable = refl
refusal-suc NoSuchLine = refl
refusal-suc AlreadySolved = refl
refusal-suc NotDue = refl

-- checks that refuse do so whatever follows them
pub refused-append : (xs ys : List Check) (n : ℕ) → first_refusal xs ≡ suc n → first_refusal (xs ++ ys) ≡ suc n
unfolding first_refusal
refused-append [] ys n e = absurd (omega (arith, e))
refused-append (x ∷ xs) ys n e = go x.fails (λ h. refused-append xs ys n h) e
  where
    go : (b : Bool) → (first_refusal xs ≡ suc n → first_refusal (xs ++ ys) ≡ suc n) → cond b x.number (first_refusal xs) ≡ suc n → cond b x.number (first_refusal (xs ++ ys)) ≡ suc n
    go true ih h = h
    go false ih h = ih h

pub refusal-append : (r : Refusal) (xs ys : List Check) → refusal_number r ≡ first_refusal xs → refusal_number r ≡ first_refusal (xs ++ ys)
refusal-append r xs ys e = refusal-suc r ∙ sym (refused-append xs ys (refusal_number r - 1) (sym e ∙ refusal-suc r))

-- checks that pass leave the answer to what follows them, where their numbers are above 0
pub passed-append : (xs ys : List Check) → Positive xs → first_refusal xs ≡ 0 → first_refusal (xs ++ ys) ≡ first_refusal ys
unfolding first_refusal
passed-append [] ys p e = refl
passed-append (x ∷ xs) ys p e = go x.fails (λ h. passed-append xs ys p.1 h) e
  where
    go : (b : Bool) → (first_refusal xs ≡ 0 → first_refusal (xs ++ ys) ≡ first_refusal ys) → cond b x.number (first_refusal xs) ≡ 0 → cond b x.number (first_refusal (xs ++ ys)) ≡ first_refusal ys
    go true ih h = absurd (omega (arith, p.0, h))
    go false ih h = ih h

pub prefix-passed : (xs ys : List Check) → first_refusal (xs ++ ys) ≡ 0 → first_refusal xs ≡ 0
prefix-passed xs ys e = go (first_refusal xs) refl
  where
    go : (n : ℕ) → first_refusal xs ≡ n → n ≡ 0
    go zero h = refl
    go (suc n) h = absurd (omega (arith, e, refused-append xs ys n h))

pub both-passed : (xs ys : List Check) → Positive xs → first_refusal (xs ++ ys) ≡ 0 → (first_refusal xs ≡ 0) × (first_refusal ys ≡ 0)
both-passed xs ys p e = let q = prefix-passed xs ys e in (q, sym (passed-append xs ys p q) ∙ e)

pub positive-append : (xs ys : List Check) → Positive xs → Positive ys → Positive (xs ++ ys)
positive-append [] ys p q = q
positive-append (x ∷ xs) ys p q = (p.0, positive-append xs ys p.1 q)

-- ---- an accepted shape

and-false : (x y : Bool) → y ≡ false → x && y ≡ false
and-false true y e = e
and-false false y e = refl

pub long-enough : (dims : List ℕ) → any_short dims ≡ false → (a : ℕ) → a < length dims → 4 ≤ points dims a
unfolding any_short
long-enough [] e a h = absurd (not-suc-le-zero h)
long-enough (n ∷ ns) e zero h = ltb-false n 4 (or-false (ltb n 4) (any_short ns) e).0
long-enough (n ∷ ns) e (suc a) h = long-enough ns (or-false (ltb n 4) (any_short ns) e).1 a (le_of_suc-le-suc h)

pub none-short : (dims : List ℕ) → ((a : ℕ) → a < length dims → 4 ≤ points dims a) → any_short dims ≡ false
unfolding any_short
none-short [] h = refl
none-short (n ∷ ns) h = rw (le-ltb n 4 (h 0 (omega arith))) (none-short ns (λ a k. h (suc a) (omega arith)))

module _ (count : ℕ) (lens : List ℕ) where
  passed : first_refusal (shape_checks count lens) ≡ 0 → (eqb count 0 || ltb 4 count ≡ false) × (any_short (take count lens) ≡ false) × (ltb most_points (size (take count lens)) ≡ false)
  passed e =
      let a = check-passed _ 1 _ (omega arith) e in
      let b = check-passed _ 2 _ (omega arith) a.1 in
      let c = check-passed _ 3 _ (omega arith) b.1 in
      (a.0, b.0, c.0)

  -- what follows the checks of an accepted shape decides
  pub accepted-append : first_refusal (shape_checks count lens) ≡ 0 → (ys : List Check) → first_refusal (shape_checks count lens ++ ys) ≡ first_refusal ys
  unfolding first_refusal
  accepted-append e ys = let p = passed e in rw (p.0, p.1, p.2)

  pub shape-accepted : first_refusal (shape_checks count lens) ≡ 0 → shape_accepted count lens ≡ true
  unfolding shape_accepted
  shape-accepted e = eq-eqb _ _ e

  -- what the answer of `check` says
  pub told-refused : (r : Refusal) → refusal_number r ≡ first_refusal (shape_checks count lens) → shape_accepted count lens ≡ false
  unfolding shape_accepted
  told-refused r e = ne_eqb _ _ (λ z. let k : refusal_number r ≡ 0 = e ∙ z in omega (arith, refusal-suc r, k))

  pub usable : length lens ≡ 4 → first_refusal (shape_checks count lens) ≡ 0 → Usable count lens
  usable four e =
      let p = passed e in
      let q = or-false (eqb count 0) (ltb 4 count) p.0 in
      let most : count ≤ 4 = ltb-false 4 count q.1 in
      let axes : length (take count lens) ≡ count = length-take-le count lens (omega arith) in
      record {
        some-axis = let z = eqb-false count 0 q.0 in omega arith;
        at-most-four = most;
        four-points = (λ a h. rw (get_or-take count lens a 0 h) at (long-enough (take count lens) p.1 a (rw axes h)));
        few-points = ltb-false most_points (size (take count lens)) p.2;
      }

  pub usable-accepted : length lens ≡ 4 → Usable count lens → first_refusal (shape_checks count lens) ≡ 0
  unfolding first_refusal
  usable-accepted four u =
      let axes : length (take count lens) ≡ count = length-take-le count lens (omega (arith, u.at-most-four)) in
      let long : any_short (take count lens) ≡ false = none-short (take count lens) (λ a h.
      let h' : a < count = rw axes at h in
      rw (get_or-take count lens a 0 h') (u.four-points a h')) in
      rw (ne_eqb count 0 (λ z. omega (arith, u.some-axis)), le-ltb 4 count u.at-most-four, long, le-ltb most_points (size (take count lens)) u.few-points)

-- ---- what an accepted shape gives of each axis: nothing is empty, and nothing is above 2 ^ 24

pub record Room (dims : List ℕ) (a : ℕ) : Type 0 where
  pub is-axis : a < length dims
  pub not-empty : NotEmpty dims
  pub four-points : 4 ≤ points dims a
  pub stride-pos : 0 < stride dims a
  pub outer-pos : 0 < product (take a dims)
  pub stride-small : stride dims a ≤ most_points
  pub outer-small : product (take a dims) ≤ most_points
  pub row_small : points dims a * stride dims a ≤ most_points
  pub lines-small : lines dims a ≤ most_points

module _ (count : ℕ) (lens : List ℕ) (four : length lens ≡ 4) (u : Usable count lens) where
  pub axes-are : length (take count lens) ≡ count
  axes-are = length-take-le count lens (omega (arith, u.at-most-four))

  pub points-are : (a : ℕ) → a < count → points (take count lens) a ≡ get_or lens a 0
  points-are a h = get_or-take count lens a 0 h

  pub usable-positive : (a : ℕ) → a < count → 0 < get_or lens a 0
  usable-positive a h = omega (arith, u.four-points a h)

  pub usable-not-empty : NotEmpty (take count lens)
  usable-not-empty a h =
      let h' : a < count = rw axes-are at h in
      rw (points-are a h') (usable-positive a h')

  pub room : (a : ℕ) → a < count → Room (take count lens) a
  room a h =
      let dims = take count lens in
      let ha : a < length dims = rw axes-are h in
      let n : ℕ = points dims a in
      let s : ℕ = stride dims a in
      let o : ℕ = product (take a dims) in
      let np : 4 ≤ n = rw (points-are a h) (u.four-points a h) in
      let sp : 0 < s = stride-pos dims usable-not-empty a in
      let op : 0 < o = span_pos dims 0 a (λ b k. usable-not-empty b (omega arith)) (omega arith) in
      let e : size dims ≡ o * (n * s) = cut dims a ha in
      let np' : 0 < n = omega arith in
      record {
        is-axis = ha;
        not-empty = usable-not-empty;
        four-points = np;
        stride-pos = sp;
        outer-pos = op;
        stride-small = omega (arith, u.few-points, le-mul_of_pos_right s (mul-pos op np'));
        outer-small = omega (arith, u.few-points, le-mul_of_pos_right o (mul-pos np' sp));
        row_small = omega (arith, u.few-points, le-mul_of_pos_right (n * s) op);
        lines-small = omega (arith, u.few-points, le-mul_of_pos_right (o * s) np');
      }

  -- an axis has at least four points, and no more than the map
  pub axis-small : (a : ℕ) → a < count → (4 ≤ get_or lens a 0) × (get_or lens a 0 ≤ most_points)
  axis-small a h =
      let r = room a h in
      let one : 1 ≤ stride (take count lens) a = r.stride-pos in
      let most : points (take count lens) a ≤ most_points = omega (arith, r.row_small, mul-le-mul_left (points (take count lens) a) one) in
      (u.four-points a h, rw (points-are a h) at most)

  -- a line's cells are in the map
  pub in_map : (a l i : ℕ) → a < count → l < lines (take count lens) a → i < points (take count lens) a → first (take count lens) a l + i * stride (take count lens) a < size (take count lens)
  in_map a l i ha hl hi = let r = room a ha in cell_at-lt (take count lens) r.not-empty a r.is-axis l i hl hi

-- no axis is longer than the map has cells
pub longest-le : (dims : List ℕ) → NotEmpty dims → longest dims ≤ size dims
unfolding longest product
longest-le [] ne = omega arith
longest-le (n ∷ ns) ne =
    let ne' : NotEmpty ns = λ a h. ne (suc a) (omega arith) in
    let one : 1 ≤ n = ne 0 (omega arith) in
    omega (arith, longest-le ns ne', le-mul_of_pos_right n (product-pos ns ne'), mul-le-mul_right (product ns) one)

-- and none is longer than the longest
pub axis-le-longest : (dims : List ℕ) (a : ℕ) → points dims a ≤ longest dims
unfolding longest
axis-le-longest [] a = omega arith
axis-le-longest (n ∷ ns) zero = omega arith
axis-le-longest (n ∷ ns) (suc a) = omega (arith, axis-le-longest ns a)

-- the lengths of the axes after axis a, and of those before it
module _ (lens : List ℕ) (count a : ℕ) (h : a < count) where
  pub after : take (count - (a + 1)) (drop (a + 1) lens) ≡ drop (suc a) (take count lens)
  after =
      let whole : a + 1 + (count - (a + 1)) ≡ count = omega arith in
      sym (drop-take (a + 1) (count - (a + 1)) lens) ∙ ap (λ k. drop (a + 1) (take k lens)) whole ∙ rw add-one

  pub before : take a lens ≡ take a (take count lens)
  before = sym (take-take a count lens (omega arith))

-- ---- what the methods answer for an accepted shape

module _ (count : ℕ) (lens : List ℕ) (ok : first_refusal (shape_checks count lens) ≡ 0) where
  pub storage-is : coeff_storage_len count lens ≡ size (take count lens)
  unfolding coeff_storage_len
  storage-is = rw (shape-accepted count lens ok)

  pub scratch-is : construction_scratch_len count lens ≡ 2 * longest (take count lens)
  unfolding construction_scratch_len
  scratch-is = rw (shape-accepted count lens ok)

  pub stride-is : (a : ℕ) → a < count → stride_of count lens a ≡ stride (take count lens) a
  unfolding stride_of
  stride-is a h = rw (shape-accepted count lens ok, lt-ltb a count h)

  pub lines_are : (a : ℕ) → a < count → lines_of count lens a ≡ lines (take count lens) a
  unfolding lines_of
  lines_are a h = rw (shape-accepted count lens ok, lt-ltb a count h)

-- 0 for a shape that is refused, and for an axis that it has not
module _ (count : ℕ) (lens : List ℕ) (a : ℕ) where
  pub stride-none : count ≤ a → ◌≡◌ {A = ℕ} 0 (stride_of count lens a)
  unfolding stride_of
  stride-none h = rw (and-false (shape_accepted count lens) (ltb a count) (le-ltb a count h))

  pub lines_none : count ≤ a → ◌≡◌ {A = ℕ} 0 (lines_of count lens a)
  unfolding lines_of
  lines_none h = rw (and-false (shape_accepted count lens) (ltb a count) (le-ltb a count h))

  pub stride-refused : shape_accepted count lens ≡ false → ◌≡◌ {A = ℕ} 0 (stride_of count lens a)
  unfolding stride_of
  stride-refused e = rw e

  pub lines-refused : shape_accepted count lens ≡ false → ◌≡◌ {A = ℕ} 0 (lines_of count lens a)
  unfolding lines_of
  lines-refused e = rw e

-- ---- an axis, by the numbers that the code works out

pub record AxisIs (count : ℕ) (lens : List ℕ) (a n s total m : ℕ) : Type 0 where
  pub the-points : n ≡ points (take count lens) a
  pub the-stride : s ≡ stride (take count lens) a
  pub the-lines : total ≡ lines (take count lens) a
  pub the-longest : m ≡ longest (take count lens)

module _ (count : ℕ) (lens : List ℕ) (four : length lens ≡ 4) (u : Usable count lens) (a : ℕ) (ha : a < count) where
  pub axis-within : {n s total m coefs scratch : ℕ} → AxisIs count lens a n s total m → coefs ≡ size (take count lens) → 2 * longest (take count lens) ≤ scratch → (0 < total) × LinesWithin n s total m coefs scratch
  axis-within x ec hs =
      let r = room count lens four u a ha in
      let long = axis-le-longest (take count lens) a in
      let p = r.four-points in
      rw (x.the-points, x.the-stride, x.the-lines, x.the-longest, ec) (
        mul-pos r.outer-pos r.stride-pos,
        record {
          four-points = r.four-points;
          stride-pos = r.stride-pos;
          row_small = r.row_small;
          inside = λ l hl. in_map count lens four u a l (points (take count lens) a - 1) ha hl (omega arith);
          few-points = u.few-points;
          upper-room = long;
          right-room = omega arith;
        },
      )
