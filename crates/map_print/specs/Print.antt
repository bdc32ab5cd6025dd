-- What the map program prints, line by line, and what printing leaves. Assumes nothing.
use Rattle.std.specs.Prelude.{◌≡◌, cond, List, [], ◌∷◌, ◌++◌, ℕ, ◌+◌, eqb, ltb, Float}
use Rattle.float_text.specs.Digits.{digits_of}
use Rattle.float_text.specs.Bits.{float_text}

-- floats, a comma before each
unfoldable pub floats_text : List Float → List ℕ
floats_text [] = []
floats_text (x ∷ xs) = 44 ∷ (float_text x ++ floats_text xs)

-- a count below 100,000 as decimal digits, with no zero in front
unfoldable pub width_of : ℕ → ℕ
width_of n = cond (ltb n 10) 1 (cond (ltb n 100) 2 (cond (ltb n 1000) 3 (cond (ltb n 10000) 4 5)))

unfoldable pub count_text : ℕ → List ℕ
count_text n = digits_of 10 (width_of n) n

-- X, and the number of the line that is unreadable
unfoldable pub unreadable_line : ℕ → List ℕ
unreadable_line k = 88 ∷ 44 ∷ (count_text k ++ (10 ∷ []))

-- M, and the refusal of the map, or 0
unfoldable pub map_line : ℕ → List ℕ
map_line number = 77 ∷ 44 ∷ (48 + number) ∷ 10 ∷ []

-- V, 0, value and gradient by axis, or the refusal alone
unfoldable pub answer_line : ℕ → Float → List Float → List ℕ
answer_line number value gradient =
    cond (eqb number 0)
    (86 ∷ 44 ∷ 48 ∷ (floats_text (value ∷ gradient) ++ (10 ∷ [])))
    (86 ∷ 44 ∷ (48 + number) ∷ 10 ∷ [])

-- T, the queries, and how many of them are outside
unfoldable pub total_line : ℕ → ℕ → List ℕ
total_line queries outside = 84 ∷ 44 ∷ (count_text queries ++ (44 ∷ (count_text outside ++ (10 ∷ []))))

-- bytes are put behind what was printed
pub record Wrote (old bytes new : List ℕ) : Type 0 where
  pub text : new ≡ old ++ bytes
