-- What `first_cell` answers, outcome by outcome; and a line by the numbers that the code works out. Assumes nothing.
use mathlib.Core.Path.{◌≡◌, sym, ◌∙◌}
use mathlib.Core.Bool.{Bool, true, false, cond, not}
use mathlib.Core.List.{List, [], ◌∷◌}
use Prim.Native.Nat.{ℕ, ◌-◌, ◌*◌, ◌≤◌, ◌<◌}
use native.Mathlib.Omega.{arith}
use lib.Dec.{eqb}
use lib.ListN.{length, get_or, take}
use borrow.Author.Tests.{lt-ltb, le-ltb, ne_eqb}
use Rattle.shape.specs.Shape.{longest, size, points, stride, lines, first_cell, is_line}
use Rattle.shape.specs.Refusal.{refusal_number}
use Rattle.shape.specs.Checks.{first_refusal, refuse, most_points, shape_checks}
use Rattle.shape.specs.Usable.{Usable}
use Rattle.shape.specs.Line.{LineIs, LineLooked, LineInside, LineFits}
use Rattle.shape.specs.Sizes.{first_cell_answer, FirstCellFound}
use Rattle.std.specs.Prelude.{Ok, Err, Option, Some, None}
use Rattle.shape.specs.declared.answers.Refusal.{Refusal}
use Rattle.shape.specs.declared.answers.Refusal.TheVariants as Refusals
use Rattle.shape.specs.declared.line.Line.{Line}
use Rattle.shape.proofs.Accepted.{refusal-suc, refusal-append, accepted-append, room, axes-are, in_map, points-are, axis-le-longest}

module _ (count : ℕ) (lens : List ℕ) (a l : ℕ) where
  -- the shape is refused
  pub found-refused : (r : Refusal) → refusal_number r ≡ first_refusal (shape_checks count lens) → FirstCellFound count lens a l (Err r)
  unfolding first_cell_answer
  found-refused r e =
      let same : refusal_number r ≡ first_cell_answer count lens a l = refusal-append r (shape_checks count lens) _ e in
      let some : eqb (first_cell_answer count lens a l) 0 ≡ false = ne_eqb _ _ (λ (z : first_cell_answer count lens a l ≡ 0). omega (arith, refusal-suc r, same)) in
      record { answers = same; cell = rw some }

  module _ (ok : first_refusal (shape_checks count lens) ≡ 0) where
    answer-is : (b : Bool) → is_line (take count lens) a l ≡ b → first_cell_answer count lens a l ≡ cond (not b) 7 0
    unfolding first_cell_answer first_refusal
    answer-is b e = accepted-append count lens ok (refuse 7 (not (is_line (take count lens) a l)) ∷ []) ∙ rw e

    -- there is no such axis or line
    pub found_none : {x : Option Line} → x ≡ None → LineLooked (take count lens) a l x → FirstCellFound count lens a l (Err Refusals.NoSuchLine)
    found_none told w = let n = answer-is false (rw told at w) in record { answers = sym n; cell = rw n }

    -- the line's first cell
    pub found_at : {x : Option Line} {found : Line} → x ≡ Some found → LineLooked (take count lens) a l x → FirstCellFound count lens a l (Ok found.base)
    found_at {found = found} told looked =
        let w : LineIs (take count lens) a l found = rw told at looked in
        let z = answer-is true (rw (lt-ltb a (length (take count lens)) w.is-axis, lt-ltb l (lines (take count lens) a) w.is-line)) in
        record { answers = sym z; cell = rw z w.the-first }

-- ---- a line by its numbers, of an accepted shape

module _ (count : ℕ) (lens : List ℕ) (four : length lens ≡ 4) (u : Usable count lens) (a l : ℕ) where
  -- t is how many lines its axis has, by the code
  module _ {t : ℕ} (ha : a < count) (et : t ≡ lines (take count lens) a) where
    pub no_line : t ≤ l → is_line (take count lens) a l ≡ false
    no_line h = rw (axes-are count lens four u, lt-ltb a count ha, le-ltb l (lines (take count lens) a) (rw et at h))

    module _ {n s : ℕ} (hl : l < t) (en : n ≡ get_or lens a 0) (es : s ≡ stride (take count lens) a) where
      the-line : l < lines (take count lens) a
      the-line = rw et at hl

      the-points : n ≡ points (take count lens) a
      the-points = en ∙ sym (points-are count lens four u a ha)

      -- what `first_cell_of` asks
      pub first-room : (0 < s) × (n * s ≤ most_points) × (first_cell n s l < most_points)
      first-room =
          let r = room count lens four u a ha in
          let inside = in_map count lens four u a l 0 ha the-line (omega (arith, r.four-points)) in
          (rw es r.stride-pos, rw (the-points, es) r.row_small, rw (the-points, es) (omega (arith, inside, u.few-points)))

  -- ---- the buffers of a fit have room for it
  module _ {found : Line} (w : LineIs (take count lens) a l found) where
    pub on-axis : a < count
    on-axis = rw (axes-are count lens four u) at w.is-axis

    pub line-inside : {cells : ℕ} → cells ≡ size (take count lens) → LineInside found cells
    line-inside e =
        rw (w.the-first, w.the-stride, w.the-points, e)
        (in_map count lens four u a l (points (take count lens) a - 1) on-axis w.is-line (omega (arith, (room count lens four u a on-axis).four-points)))

    pub line-fits : {coefs scratch : ℕ} → coefs ≡ size (take count lens) → 2 * longest (take count lens) ≤ scratch → LineFits found coefs scratch
    line-fits ec hs =
        let r = room count lens four u a on-axis in
        let long = axis-le-longest (take count lens) a in (
          (omega (arith, r.four-points, w.the-points), line-inside ec),
          (omega (arith, w.the-points, w.the-longest), omega (arith, w.the-points, w.the-longest)),
        )
