-- Digits as text, to a base of at most 16: 0 to 9, then a to f. Assumes nothing.
use Rattle.std.specs.Prelude.{cond, List, [], ◌∷◌, ℕ, zero, suc, ◌+◌, ◌*◌, ◌-◌, ◌/◌, ◌%◌, ◌^◌, ltb, Option, Some, None}

-- the value of a digit, 0 to 9 and a to f; 16 of any other byte
unfoldable pub digit_of : ℕ → ℕ
digit_of b = cond (ltb b 48) 16 (cond (ltb b 58) (b - 48) (cond (ltb b 97) 16 (cond (ltb b 103) (b - 87) 16)))

-- the byte of a digit
unfoldable pub letter_of : ℕ → ℕ
letter_of d = cond (ltb d 10) (48 + d) (87 + d)

-- the number that digits stand for, the highest first, after a number that has been read
unfoldable pub number_from : ℕ → ℕ → List ℕ → Option ℕ
number_from base n [] = Some n
number_from base n (b ∷ bs) = cond (ltb (digit_of b) base) (number_from base (n * base + digit_of b) bs) None

-- the lowest k digits of n, the highest first
unfoldable pub digits_of : ℕ → ℕ → ℕ → List ℕ
digits_of base zero n = []
digits_of base (suc k) n = letter_of (n / base ^ k) ∷ digits_of base k (n % base ^ k)
