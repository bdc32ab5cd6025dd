-- Reading and writing are inverse: what is written is read back, and what is read is written back. Assumes nothing.
use mathlib.Core.Path.{◌≡◌, refl, sym, ap, ◌∙◌}
use mathlib.Core.Bool.{Bool, true, false, cond, not}
use mathlib.Core.List.{List, [], ◌∷◌}
use Prim.Native.Nat.{ℕ, zero, suc, ◌+◌, ◌*◌, ◌-◌, ◌/◌, ◌%◌, ◌^◌, ◌≤◌, ◌<◌}
use native.Mathlib.Nat.{pow-suc, pow-zero, pow-succ', div-lt_iff_lt-mul, mod-lt, div-add-mod', one-le-pow, add-mul, mul_assoc, mul_comm, lt_of_lt_of_le}
use native.Mathlib.Omega.{arith}
use lib.Dec.{T, ltb, eqb}
use lib.Arith.{digits_lt, digits_div, digits_mod}
use lib.ListN.{length}
use lib.Ieee.{Float, is_nan, of_bits, to_bits, fits, binary64}
use lib.Ieee.Bits.{of_bits-to_bits, to_bits-lt, to_bits-of_bits}
use borrow.Author.Tests.{lt-ltb, le-ltb, eq-eqb, ltb-true, ltb-false, eqb-true}
use Rattle.float_text.specs.Digits.{number_from, digit_of, digits_of, letter_of}
use Rattle.float_text.specs.Bits.{bits_in, bits_text, float_in, float_text, same_bits}
use Rattle.std.specs.Prelude.{Some, None}
use Rattle.float_text.proofs.Writing.{length_digits}

-- ---- digits

-- a letter is read as its digit
pub digit-letter : (d : ℕ) → d < 16 → digit_of (letter_of d) ≡ d
unfolding digit_of letter_of
digit-letter d h = go (ltb d 10) refl
  where
    go : (t : Bool) → ltb d 10 ≡ t → digit_of (cond t (48 + d) (87 + d)) ≡ d
    go true e =
        let l = ltb-true d 10 e in
        rw (le-ltb (48 + d) 48 (omega arith), lt-ltb (48 + d) 58 (omega arith)) (omega arith)
    go false e =
        let l = ltb-false d 10 e in
        rw (le-ltb (87 + d) 48 (omega arith), le-ltb (87 + d) 58 (omega arith), le-ltb (87 + d) 97 (omega arith), lt-ltb (87 + d) 103 (omega arith)) (omega arith)

sum : (acc base d r p n : ℕ) → d * p + r ≡ n → (acc * base + d) * p + r ≡ acc * (p * base) + n
sum acc base d r p n e = rw (add-mul (acc * base) d p, mul_assoc acc base p, mul_comm base p) (omega arith)

-- k digits of a number below base ^ k are read as it
pub read-digits : (base : ℕ) → 0 < base → base ≤ 16 → (k acc n : ℕ) → n < base ^ k
    → number_from base acc (digits_of base k n) ≡ Some (acc * base ^ k + n)
unfolding number_from digits_of
read-digits base p b zero acc n h = ap Some (let z : n < 1 = rw pow-zero at h in rw (pow-zero base) (omega arith))
read-digits base p b (suc k) acc n h =
    let q : n / base ^ k < base = (div-lt_iff_lt-mul (one-le-pow k base p)).1 (rw pow-succ' at h) in
    rw (digit-letter (n / base ^ k) (lt_of_lt_of_le q b), lt-ltb _ _ q)
    (read-digits base p b k (acc * base + n / base ^ k) (n % base ^ k) (mod-lt n (one-le-pow k base p))
    ∙ ap Some (rw (pow-suc base k) (sum acc base (n / base ^ k) (n % base ^ k) (base ^ k) n (div-add-mod' n (base ^ k)))))

-- a digit is written as its letter
pub letter-digit : (b : ℕ) → digit_of b < 16 → letter_of (digit_of b) ≡ b
unfolding digit_of letter_of
letter-digit b = go (ltb b 48) (ltb b 58) (ltb b 97) (ltb b 103) refl refl refl refl
  where
    go : (p q r s : Bool) → ltb b 48 ≡ p → ltb b 58 ≡ q → ltb b 97 ≡ r → ltb b 103 ≡ s
        → cond p 16 (cond q (b - 48) (cond r 16 (cond s (b - 87) 16))) < 16
        → letter_of (cond p 16 (cond q (b - 48) (cond r 16 (cond s (b - 87) 16)))) ≡ b
    go true q r s e f g k h = absurd (let z : ⊥ = omega arith in z)
    go false true r s e f g k h =
        let l = ltb-false b 48 e in
        let m = ltb-true b 58 f in
        rw (lt-ltb (b - 48) 10 (omega arith)) (omega arith)
    go false false true s e f g k h = absurd (let z : ⊥ = omega arith in z)
    go false false false true e f g k h =
        let l = ltb-false b 97 g in
        rw (le-ltb (b - 87) 10 (omega arith)) (omega arith)
    go false false false false e f g k h = absurd (let z : ⊥ = omega arith in z)

-- what is known of digits that were read as n after acc: they are those of a number below base ^ k, and n has them behind acc
pub record WereRead (base acc n : ℕ) (text : List ℕ) : Type 0 where
  pub rest : ℕ
  pub below : rest < base ^ length text
  pub number : n ≡ acc * base ^ length text + rest
  pub written : digits_of base (length text) rest ≡ text

module _ (base : ℕ) (few : base ≤ 16) where
  one_more : (b acc n : ℕ) (text : List ℕ) → digit_of b < base → WereRead base (acc * base + digit_of b) n text → WereRead base acc n (b ∷ text)
  unfolding digits_of
  one_more b acc n text l h = record {
    rest = digit_of b * base ^ length text + h.rest;
    below = rw (pow-succ' base (length text)) (digits_lt l h.below);
    number =
        rw (pow-suc base (length text))
        (h.number ∙ sum acc base (digit_of b) h.rest (base ^ length text) (digit_of b * base ^ length text + h.rest) refl);
    written =
        rw
        (digits_div (digit_of b) h.below, digits_mod (digit_of b) h.below, letter-digit b (lt_of_lt_of_le l few), h.written);
  }

  pub were-read : (text : List ℕ) (acc n : ℕ) → number_from base acc text ≡ Some n → WereRead base acc n text
  unfolding number_from digits_of
  were-read [] acc n e =
      let z : acc ≡ n = cc in
      record {
        rest = 0;
        below = rw pow-zero (omega arith);
        number = rw pow-zero (omega arith);
        written = refl;
      }
  were-read (b ∷ text) acc n e = go (ltb (digit_of b) base) refl e (were-read text (acc * base + digit_of b) n)
    where
      go : (t : Bool) → ltb (digit_of b) base ≡ t → cond t (number_from base (acc * base + digit_of b) text) None ≡ Some n
          → (number_from base (acc * base + digit_of b) text ≡ Some n → WereRead base (acc * base + digit_of b) n text)
          → WereRead base acc n (b ∷ text)
      go true l f ih = one_more b acc n text (ltb-true (digit_of b) base l) (ih f)
      go false l f ih = absurd (let z : ◌≡◌ {A = ℕ} 0 1 = cc in let y : ⊥ = omega arith in y)

-- ---- 64 bits

-- what is written is read back
pub read-written : (n : ℕ) → n < 2 ^ 64 → bits_in (bits_text n) ≡ Some n
unfolding bits_in bits_text
read-written n h =
    rw (eq-eqb _ _ (length_digits 16 16 n)) (read-digits 16 (omega arith) (omega arith) 16 0 n h ∙ ap Some (omega arith))

-- what is read has 16 digits
read_length : (text : List ℕ) (n : ℕ) → bits_in text ≡ Some n → (length text ≡ 16) × (number_from 16 0 text ≡ Some n)
unfolding bits_in
read_length text n = go (eqb (length text) 16) refl
  where
    go : (t : Bool) → eqb (length text) 16 ≡ t → cond t (number_from 16 0 text) None ≡ Some n → (length text ≡ 16) × (number_from 16 0 text ≡ Some n)
    go true l e = (eqb-true (length text) 16 l, e)
    go false l e = absurd (let z : ◌≡◌ {A = ℕ} 0 1 = cc in let y : ⊥ = omega arith in y)

module _ (text : List ℕ) (n : ℕ) (e : bits_in text ≡ Some n) where
  length-is : length text ≡ 16
  length-is = (read_length text n e).0

  known : WereRead 16 0 n text
  known = were-read 16 (omega arith) text 0 n (read_length text n e).1

  the_rest : known.rest ≡ n
  the_rest = omega (arith, known.number)

  -- it is a number of 64 bits
  pub read_fits : n < 2 ^ 64
  read_fits = rw (← the_rest) (rw length-is at known.below)

  -- what is read is written back
  pub written_read : bits_text n ≡ text
  unfolding bits_text
  written_read =
      ap (digits_of 16 16) (sym the_rest) ∙ ap (λ (k : ℕ). digits_of 16 k known.rest) (sym length-is) ∙ known.written

-- ---- floats

-- a float is read back, a NaN as the NaN
pub read-written-float : (x : Float) → T (fits binary64 x) → float_in (float_text x) ≡ Some x
unfolding float_in float_text
read-written-float x h =
    rw (read-written (to_bits binary64 x) (to_bits-lt binary64 x h)) (ap Some (of_bits-to_bits binary64 x h))

-- a float that is read is written back, unless it is the NaN, which has many patterns
pub written-read-float : (text : List ℕ) (n : ℕ) → bits_in text ≡ Some n → T (not (is_nan (of_bits binary64 n))) → float_text (of_bits binary64 n) ≡ text
unfolding float_text
written-read-float text n e k =
    rw (to_bits-of_bits binary64 n (read_fits text n e) k) (written_read text n e)

-- floats with the same bits are equal, and the other way round
pub same-equal : (x y : Float) → T (fits binary64 x) → T (fits binary64 y) → same_bits x y ≡ true → x ≡ y
unfolding same_bits
same-equal x y h k e =
    sym (of_bits-to_bits binary64 x h) ∙ ap (of_bits binary64) (eqb-true _ _ e) ∙ of_bits-to_bits binary64 y k

pub equal-same : (x y : Float) → x ≡ y → same_bits x y ≡ true
unfolding same_bits
equal-same x y e = eq-eqb _ _ (ap (to_bits binary64) e)
