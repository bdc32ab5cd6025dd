-- Line 1 of the map program's input: the kind of grid, the flag, the axis count and as many lengths. Assumes nothing.
use Rattle.std.specs.Prelude.{◌≡◌, Bool, true, false, cond, ◌&&◌, ◌||◌, List, [], ◌∷◌, ℕ, ◌≤◌, eqb, ltb, length, take, Option, Some, None}
use Rattle.float_text.specs.Digits.{number_from}
use Rattle.map_fields.specs.declared.head.FirstLine.{FirstLine}

-- ---- decimals

-- 1 to 8 decimal digits; zeros may lead
unfoldable pub decimal_in : List ℕ → Option ℕ
decimal_in text = cond (eqb (length text) 0) None (cond (ltb 8 (length text)) None (number_from 10 0 text))

abbrev pub is_decimal : Option ℕ → Bool
is_decimal (Some n) = true
is_decimal None = false

abbrev pub or_zero : Option ℕ → ℕ
or_zero (Some n) = n
or_zero None = 0

unfoldable pub are_decimals : List (List ℕ) → Bool
are_decimals [] = true
are_decimals (p ∷ ps) = is_decimal (decimal_in p) && are_decimals ps

-- their numbers
unfoldable pub decimals_of : List (List ℕ) → List ℕ
decimals_of [] = []
decimals_of (p ∷ ps) = or_zero (decimal_in p) ∷ decimals_of ps

-- ---- line 1

-- a field of this one byte
unfoldable pub is_byte : ℕ → List ℕ → Bool
is_byte b [] = false
is_byte b (x ∷ []) = eqb x b
is_byte b (x ∷ y ∷ ys) = false

-- what line 1 says; the axis count is the number of lengths
pub record Head : Type 0 where
  pub regular : Bool
  pub linear : Bool
  pub dims : List ℕ

-- E or R; 1 or 0; decimals, the first of which counts the others
abbrev pub is_head : List ℕ → List ℕ → List ℕ → List (List ℕ) → Bool
is_head kind flag count lengths =
    (is_byte 69 kind || is_byte 82 kind)
    && ((is_byte 49 flag || is_byte 48 flag)
    && (are_decimals (count ∷ lengths) && eqb (length lengths) (or_zero (decimal_in count))))

unfoldable pub head_in : List (List ℕ) → Option Head
head_in [] = None
head_in (kind ∷ []) = None
head_in (kind ∷ flag ∷ []) = None
head_in (kind ∷ flag ∷ count ∷ lengths) =
    cond (is_head kind flag count lengths)
    (Some (record { regular = is_byte 69 kind; linear = is_byte 49 flag; dims = decimals_of lengths }))
    None

-- ---- what the functions that read line 1 promise

-- an axis count, and as many lengths behind it
unfoldable pub are_counted : List (List ℕ) → Bool
are_counted [] = false
are_counted (count ∷ lengths) = are_decimals (count ∷ lengths) && eqb (length lengths) (or_zero (decimal_in count))

-- the lengths of up to four axes are kept
pub record Kept (lengths : List ℕ) (count : ℕ) (dims : List ℕ) : Type 0 where
  pub axes : count ≡ length lengths
  pub kept : count ≤ 4 → take count dims ≡ lengths

-- the lengths of the axes, whatever they are
unfoldable pub lengths_in : List (List ℕ) → List ℕ
lengths_in [] = []
lengths_in (kind ∷ []) = []
lengths_in (kind ∷ flag ∷ []) = []
lengths_in (kind ∷ flag ∷ count ∷ lengths) = decimals_of lengths

-- line 1 was read, with its axis count and the lengths of up to four axes
pub record HeadRead (ps : List (List ℕ)) (line : FirstLine) : Type 0 where
  pub head : head_in ps ≡ Some (record { regular = line.regular; linear = line.linear; dims = lengths_in ps })
  pub lengths : Kept (lengths_in ps) line.count line.dims
