-- Digits are written one after the other. Assumes nothing.
use mathlib.Core.Path.{◌≡◌, refl, sym, ap, ◌∙◌}
use mathlib.Core.Bool.{Bool, true}
use mathlib.Core.List.{List, ◌∷◌, ◌++◌, append-nil}
use Prim.Native.Nat.{ℕ, zero, suc, ◌+◌, ◌-◌, ◌/◌, ◌%◌, ◌^◌, ◌≤◌, ◌<◌}
use native.Mathlib.Nat.{zero-add, pow-suc, pow-succ', mul-div_cancel, one-le-pow, mod-lt, div-lt_iff_lt-mul, lt_of_lt_of_le}
use native.Mathlib.Numerals.{add-one}
use native.Mathlib.Omega.{arith}
use lib.Dec.{leb}
use lib.ListN.{length, take, drop, length-take, length-drop, set, get_or, length-set, drop_of_length-le}
use lib.Seq.{drop-cons, paste, paste-suc}
use Rattle.std.proofs.lemmas.List.Edits.{paste_all}
use Rattle.std.proofs.lemmas.Slice.{put_mid-paste}
use borrow.Rule.Slice.PartMut.{put_mid}
use borrow.Author.Tests.{leb-true}
use Rattle.float_text.specs.Digits.{digits_of, letter_of}
use Rattle.float_text.specs.Bits.{bits_text, Written}

pub length_digits : (base k n : ℕ) → length (digits_of base k n) ≡ k
unfolding digits_of
length_digits base zero n = refl
length_digits base (suc k) n = ap suc (length_digits base k (n % base ^ k))

-- the first i digits are written; `left` has the others, of which the highest weighs `weight`
pub record Printing (base n : ℕ) (old new : List ℕ) (left weight i : ℕ) : Type 0 where
  pub few : i ≤ length old
  pub size : length new ≡ length old
  pub unit : weight ≡ base ^ (length old - i) / base
  pub below : left < base ^ (length old - i)
  pub rest : drop i (digits_of base (length old) n) ≡ digits_of base (length old - i) left
  pub buffer : new ≡ paste old 0 (digits_of base (length old) n) i

module _ (base n : ℕ) (old new : List ℕ) (left weight i : ℕ) (h : Printing base n old new left weight i) (pos : 0 < base) (l : i < length old) where
  ahead : length old - i ≡ suc (length old - (i + 1))
  ahead = omega arith

  weighs : weight ≡ base ^ (length old - (i + 1))
  weighs = h.unit ∙ rw (ahead, pow-suc base (length old - (i + 1))) (mul-div_cancel (base ^ (length old - (i + 1))) pos)

  pub Printing-weight : 0 < weight
  Printing-weight = rw weighs (one-le-pow (length old - (i + 1)) base pos)

  pub Printing-digit : base ≤ 16 → left / weight < 16
  Printing-digit b =
      lt_of_lt_of_le
      (rw weighs ((div-lt_iff_lt-mul (one-le-pow (length old - (i + 1)) base pos)).1 (rw (← pow-succ' base (length old - (i + 1)), ← ahead) h.below)))
      b

  inside : i < length (digits_of base (length old) n)
  inside = rw length_digits l

  -- digit i, and those after it
  parted : get_or (digits_of base (length old) n) i 0 ∷ drop (suc i) (digits_of base (length old) n)
      ≡ letter_of (left / weight) ∷ digits_of base (length old - (i + 1)) (left % weight)
  unfolding digits_of
  parted = sym (drop-cons (digits_of base (length old) n) i 0 inside) ∙ h.rest ∙ rw (ahead, weighs)

  pub Printing-step : (b : ℕ) → b ≡ letter_of (left / weight) → Printing base n old (set new i b) (left % weight) (weight / base) (i + 1)
  Printing-step b e =
      let p = parted in
      let same : get_or (digits_of base (length old) n) i 0 ≡ b = cc in
      let after : drop (suc i) (digits_of base (length old) n) ≡ digits_of base (length old - (i + 1)) (left % weight) = cc in
      record {
        few = omega arith;
        size = length-set new i b ∙ h.size;
        unit = ap (λ (z : ℕ). z / base) weighs;
        below = rw weighs (mod-lt left (one-le-pow (length old - (i + 1)) base pos));
        rest = ap (λ (k : ℕ). drop k (digits_of base (length old) n)) (add-one i) ∙ after;
        buffer =
            rw (h.buffer, ← same, add-one i)
            (ap (λ (k : ℕ). set (paste old 0 (digits_of base (length old) n) i) k (get_or (digits_of base (length old) n) i 0)) (sym (zero-add i))
            ∙ paste-suc old 0 (digits_of base (length old) n) i 0 (omega arith) inside);
      }

pub Printing-done : (base n : ℕ) (old new : List ℕ) (left weight i : ℕ) → Printing base n old new left weight i
    → length old ≤ i → new ≡ digits_of base (length old) n
Printing-done base n old new left weight i h l =
    let z : i ≡ length old = omega (arith, h.few) in
    let d = digits_of base (length old) n in
    h.buffer
    ∙ ap (λ (k : ℕ). paste old 0 (digits_of base (length old) n) k) z
    ∙ paste_all old 0 (digits_of base (length old) n) (length old) (sym (length_digits base (length old) n))
    ∙ ap (λ (r : List ℕ). digits_of base (length old) n ++ r) (drop_of_length-le old (let q : length old ≤ 0 + length old = omega arith in q))
    ∙ append-nil (digits_of base (length old) n)

-- how long a part of a list is
pub part-length : (at k : ℕ) (old : List ℕ) → at + k ≤ length old → length (take (at + k - at) (drop at old)) ≡ k
part-length at k old l = rw (length-take, length-drop) (omega arith)

-- what `has_room` answered, and what is then written
module _ (at : ℕ) (old : List ℕ) (r : Bool) (e : r ≡ leb (at + 16) (length old)) where
  room : r ≡ true → at + 16 ≤ length old
  room n = leb-true (at + 16) (length old) (sym e ∙ n)

  pub Room-done : (bits : ℕ) (part : List ℕ) → r ≡ true → part ≡ digits_of 16 (length (take (at + 16 - at) (drop at old))) bits
      → Written (bits_text bits) at old true (put_mid at (at + 16 - at) old part)
  unfolding bits_text
  Room-done bits part n p = record {
    room = sym n ∙ e;
    buffer =
        put_mid-paste at (at + 16 - at) old part (digits_of 16 16 bits) 16
        (p ∙ ap (λ (k : ℕ). digits_of 16 k bits) (part-length at 16 old (room n)))
        (let q : 16 ≡ at + 16 - at = omega arith in q)
        (sym (length_digits 16 16 bits));
  }
