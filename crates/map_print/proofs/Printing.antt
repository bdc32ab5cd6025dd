-- How long the printed texts are, and how the parts of a line are joined. Assumes nothing.
use mathlib.Core.Path.{◌≡◌, refl, sym, ap, ◌∙◌}
use mathlib.Core.Bool.{Bool, true, false, cond}
use mathlib.Core.List.{List, [], ◌∷◌, ◌++◌, append_assoc, append-nil}
use Prim.Native.Nat.{ℕ, ◌+◌, ◌*◌, ◌≤◌, ◌<◌}
use native.Mathlib.Numerals.{add-one}
use native.Mathlib.Omega.{arith}
use lib.Dec.{ltb, eqb, lit≤}
use borrow.Author.Tests.{lt-ltb, le-ltb, le-leb, ne_eqb}
use lib.ListN.{length, take, get_or, length-append, drop_of_length-le}
use lib.Seq.{take-suc, take_all}
use lib.Ieee.{Float, to_bits, binary64, nan}
use Rattle.std.proofs.lemmas.List.Edits.{paste_all}
use Rattle.std.proofs.Math.Seq.{paste}
use Rattle.float_text.specs.Digits.{digits_of}
use Rattle.float_text.specs.Bits.{float_text, bits_text, Written}
use Rattle.float_text.proofs.Writing.{length_digits}
use Rattle.map_print.specs.Print.{Wrote, floats_text, count_text, width_of, answer_line}

-- ---- one part after another
pub grown : {old now more : List ℕ} → Wrote old more now → length now ≡ length old + length more
grown {old} {now} {more} w = ap length w.text ∙ length-append old more

pub Wrote-then : {old now next xs ys : List ℕ} → Wrote old xs now → Wrote now ys next → Wrote old (xs ++ ys) next
Wrote-then {old} {now} {next} {xs} {ys} e f = record { text = f.text ∙ ap (λ (l : List ℕ). l ++ ys) e.text ∙ append_assoc old xs ys }

-- the same bytes, in other words
pub Wrote-as : {old now xs ys : List ℕ} → xs ≡ ys → Wrote old xs now → Wrote old ys now
Wrote-as {old} e w = record { text = w.text ∙ ap (λ (l : List ℕ). old ++ l) e }

-- ---- floats
pub length-float_text : (x : Float) → length (float_text x) ≡ 16
unfolding float_text bits_text
length-float_text x = length_digits 16 16 (to_bits binary64 x)

-- the text that a buffer of just its length was overwritten with
pub text-written : (x : Float) (answer : Bool) (old new : List ℕ) → length old ≡ 16 → Written (float_text x) 0 old answer new → new ≡ float_text x
text-written x answer old new n w =
    let yes : answer ≡ true = w.room ∙ le-leb (0 + 16) (length old) (omega (arith, n)) in
    w.buffer ∙ ap (λ (b : Bool). cond b (paste old 0 (float_text x) 16) old) yes
    ∙ paste_all old 0 (float_text x) 16 (sym (length-float_text x))
    ∙ ap (λ (r : List ℕ). float_text x ++ r) (drop_of_length-le old (let q : length old ≤ 0 + 16 = omega (arith, n) in q))
    ∙ append-nil (float_text x)

pub length-floats_text : (xs : List Float) → length (floats_text xs) ≡ 17 * length xs
unfolding floats_text
length-floats_text [] = refl
length-floats_text (x ∷ xs) = rw (length-append (float_text x) (floats_text xs), length-float_text x) (omega (arith, length-floats_text xs))

floats-append : (xs ys : List Float) → floats_text (xs ++ ys) ≡ floats_text xs ++ floats_text ys
unfolding floats_text
floats-append [] ys = refl
floats-append (x ∷ xs) ys = rw (floats-append xs ys, append_assoc)

-- the floats so far, and one more
pub floats-start : (old : List ℕ) (xs : List Float) → Wrote old (floats_text (take 0 xs)) old
unfolding floats_text
floats-start old xs = record { text = sym (append-nil old) }

pub floats-more : (old now next : List ℕ) (xs : List Float) (i : ℕ) → i < length xs → Wrote old (floats_text (take i xs)) now → Wrote now (44 ∷ float_text (get_or xs i nan)) next
    → Wrote old (floats_text (take (i + 1) xs)) next
unfolding floats_text
floats-more old now next xs i l w v =
    Wrote-as (sym (rw (add-one i, take-suc xs i nan l, floats-append (take i xs) (get_or xs i nan ∷ []), append-nil))) (Wrote-then w v)

pub floats-done : (old now : List ℕ) (xs : List Float) (i : ℕ) → length xs ≤ i → Wrote old (floats_text (take i xs)) now → Wrote old (floats_text xs) now
floats-done old now xs i l w = Wrote-as (ap floats_text (take_all i xs l)) w

-- ---- counts
module _ (n : ℕ) where
  pub count-1 : n < 10 → count_text n ≡ digits_of 10 1 n
  unfolding count_text width_of
  count-1 a = rw (lt-ltb n 10 a)

  pub count-2 : 10 ≤ n → n < 100 → count_text n ≡ digits_of 10 2 n
  unfolding count_text width_of
  count-2 a b = rw (le-ltb n 10 a, lt-ltb n 100 b)

  pub count-3 : 100 ≤ n → n < 1000 → count_text n ≡ digits_of 10 3 n
  unfolding count_text width_of
  count-3 a b = rw (le-ltb n 10 (omega arith), le-ltb n 100 a, lt-ltb n 1000 b)

  pub count-4 : 1000 ≤ n → n < 10000 → count_text n ≡ digits_of 10 4 n
  unfolding count_text width_of
  count-4 a b = rw (le-ltb n 10 (omega arith), le-ltb n 100 (omega arith), le-ltb n 1000 a, lt-ltb n 10000 b)

  pub count-5 : 10000 ≤ n → count_text n ≡ digits_of 10 5 n
  unfolding count_text width_of
  count-5 a = rw (le-ltb n 10 (omega arith), le-ltb n 100 (omega arith), le-ltb n 1000 (omega arith), le-ltb n 10000 a)

  pub length-count_text : length (count_text n) ≤ 5
  unfolding count_text width_of
  length-count_text = rw (length_digits 10 (width_of n) n) (go (ltb n 10) (ltb n 100) (ltb n 1000) (ltb n 10000))
    where
      go : (a b c d : Bool) → cond a 1 (cond b 2 (cond c 3 (cond d 4 5))) ≤ 5
      go true b c d = lit≤ tt
      go false true c d = lit≤ tt
      go false false true d = lit≤ tt
      go false false false true = lit≤ tt
      go false false false false = lit≤ tt

-- ---- values

-- a refused query prints its number alone
pub number-alone : (n : ℕ) (v : Float) (g : List Float) → 0 < n → 86 ∷ 44 ∷ (48 + n) ∷ 10 ∷ [] ≡ answer_line n v g
unfolding answer_line
number-alone n v g l = rw (ne_eqb n 0 (λ e. omega (arith, e)))

pub values-text : (v : Float) (g : List Float) → answer_line 0 v g ≡ 86 ∷ 44 ∷ 48 ∷ 44 ∷ (float_text v ++ (floats_text g ++ (10 ∷ [])))
unfolding answer_line floats_text
values-text v g = rw append_assoc

pub length-answer : (n : ℕ) (v : Float) (g : List Float) → length (answer_line n v g) ≤ 21 + 17 * length g
unfolding answer_line floats_text
length-answer n v g = go (eqb n 0)
  where
    go : (t : Bool) → length (cond t (86 ∷ 44 ∷ 48 ∷ (floats_text (v ∷ g) ++ (10 ∷ []))) (86 ∷ 44 ∷ (48 + n) ∷ 10 ∷ [])) ≤ 21 + 17 * length g
    go true = rw (length-append (float_text v ++ floats_text g) (10 ∷ []), length-append (float_text v) (floats_text g)) (omega (arith, length-float_text v, length-floats_text g))
    go false = omega arith
