-- Text as lines, a line as fields, a line of floats; texts are lists of bytes. Assumes nothing.
use Rattle.std.specs.Prelude.{cond, List, [], ◌∷◌, ℕ, zero, suc, ◌+◌, eqb, length, Float, Option, Some, None}
use Rattle.float_text.specs.Bits.{float_in}

-- a byte in front of the first part
abbrev pub onto : ℕ → List (List ℕ) → List (List ℕ)
onto b [] = (b ∷ []) ∷ []
onto b (p ∷ ps) = (b ∷ p) ∷ ps

-- lines end in a newline, which the last may lack; what follows the last newline is a line only if it is not empty
unfoldable pub lines : List ℕ → List (List ℕ)
lines [] = []
lines (b ∷ bs) = cond (eqb b 10) ([] ∷ lines bs) (onto b (lines bs))

-- fields are parted by commas; an empty line is one empty field
unfoldable pub fields : List ℕ → List (List ℕ)
fields [] = [] ∷ []
fields (b ∷ bs) = cond (eqb b 44) ([] ∷ fields bs) (onto b (fields bs))

-- what stands before the first b
unfoldable pub before : ℕ → List ℕ → List ℕ
before b [] = []
before b (x ∷ xs) = cond (eqb x b) [] (x ∷ before b xs)

-- ---- a line of floats

-- a float in front of floats, where both could be read
abbrev pub joined : Option Float → Option (List Float) → Option (List Float)
joined None xs = None
joined (Some x) None = None
joined (Some x) (Some xs) = Some (x ∷ xs)

-- exactly n fields, each a float of 16 lower-case hexadecimal digits
unfoldable pub floats_in : ℕ → List (List ℕ) → Option (List Float)
floats_in zero [] = Some []
floats_in zero (p ∷ ps) = None
floats_in (suc n) [] = None
floats_in (suc n) (p ∷ ps) = joined (float_in p) (floats_in n ps)

-- the floats of the next line, which may be missing
unfoldable pub row_in : ℕ → List (List ℕ) → Option (List Float)
row_in n [] = None
row_in n (l ∷ ls) = floats_in n (fields l)

-- the lines after the next
unfoldable pub rest : List (List ℕ) → List (List ℕ)
rest [] = []
rest (l ∷ ls) = ls

-- ---- what the functions that read promise

-- the fields that are left, where anything is left of the line
abbrev pub fields_left : Option (List ℕ) → List (List ℕ)
fields_left None = []
fields_left (Some line) = fields line

-- floats that come as an answer and a buffer
abbrev pub given : Option (Unit {0}) → List Float → Option (List Float)
given None xs = None
given (Some read) xs = Some xs

-- how much room lines take, with a byte behind each
unfoldable pub room_of : List (List ℕ) → ℕ
room_of [] = 0
room_of (l ∷ ls) = suc (length l) + room_of ls
