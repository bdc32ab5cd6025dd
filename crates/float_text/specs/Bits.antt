-- 64 bits as text, and floats by their bits. Assumes nothing.
use Rattle.std.specs.Prelude.{◌≡◌, Bool, cond, List, ℕ, ◌+◌, eqb, leb, length, Float, Option, None, option_map}
use Rattle.std.proofs.Math.Seq.{paste}
use Rattle.std.specs.Float.Ieee.{of_bits, to_bits}
use Rattle.std.specs.Float.{binary64}
use Rattle.float_text.specs.Digits.{number_from, digits_of}

-- the 64 bits that 16 hexadecimal digits stand for
unfoldable pub bits_in : List ℕ → Option ℕ
bits_in text = cond (eqb (length text) 16) (number_from 16 0 text) None

-- 64 bits as 16 hexadecimal digits
unfoldable pub bits_text : ℕ → List ℕ
bits_text bits = digits_of 16 16 bits

-- the float that they stand for
unfoldable pub float_in : List ℕ → Option Float
float_in text = option_map (of_bits binary64) (bits_in text)

unfoldable pub float_text : Float → List ℕ
float_text x = bits_text (to_bits binary64 x)

-- the same bits, any NaN for any NaN: there is one NaN here
unfoldable pub same_bits : Float → Float → Bool
same_bits x y = eqb (to_bits binary64 x) (to_bits binary64 y)

-- 16 bytes of text are put into a buffer from `at` on, where there is room
pub record Written (text : List ℕ) (at : ℕ) (old : List ℕ) (answer : Bool) (new : List ℕ) : Type 0 where
  pub room : answer ≡ leb (at + 16) (length old)
  pub buffer : new ≡ cond answer (paste old at text 16) old
