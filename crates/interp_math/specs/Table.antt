-- The table of partial sums: the sums at four neighbours along the last axis stand side by side in a row, and the rows at four
-- neighbours along axis j make the row over one axis more. For contracts inside the library. Assumes nothing.
--     strides, weights, slopes    an entry for each axis, axis 0 first
use Rattle.std.specs.Prelude.{◌≡◌, ◌≤◌, List, [], ◌∷◌, ℕ, zero, suc, ◌+◌, get_or, set, Float}
use Rattle.std.specs.Float.{nan, Format}
use Rattle.interp_math.specs.Sum.{dot4, summed}

-- The sums over the first j axes at `at` and at its three neighbours along an axis of stride 1.
unfoldable pub lanes : Format → List Float → List ℕ → List (List Float) → ℕ → ℕ → List Float
lanes f coefs strides weights j at =
    summed f coefs strides weights j at
    ∷ summed f coefs strides weights j (at + 1)
    ∷ summed f coefs strides weights j (at + 2)
    ∷ summed f coefs strides weights j (at + 3)
    ∷ []

-- the first j strides together
abbrev pub strides_over : List ℕ → ℕ → ℕ
strides_over strides zero = 0
strides_over strides (suc j) = strides_over strides j + get_or strides j 0

-- four rows, one for each of four neighbours
abbrev pub rows_of : (ℕ → List Float) → List (List Float)
rows_of row = row 0 ∷ row 1 ∷ row 2 ∷ row 3 ∷ []

-- entry q of each of four rows
abbrev pub column : List (List Float) → ℕ → List Float
column table q = get_or (get_or table 0 []) q nan ∷ get_or (get_or table 1 []) q nan ∷ get_or (get_or table 2 []) q nan ∷ get_or (get_or table 3 []) q nan ∷ []

-- a table turned round: its columns as rows
abbrev pub turned : List (List Float) → List (List Float)
turned table = column table 0 ∷ column table 1 ∷ column table 2 ∷ column table 3 ∷ []

-- the four-term sum of each column
unfoldable pub across : Format → List Float → List (List Float) → List Float
across f w table = dot4 f w (column table 0) ∷ dot4 f w (column table 1) ∷ dot4 f w (column table 2) ∷ dot4 f w (column table 3) ∷ []

-- ---- of a gradient

-- the weights with axis k's replaced by its slopes
abbrev pub sloped : List (List Float) → List (List Float) → ℕ → List (List Float)
sloped weights slopes k = set weights k (get_or slopes k [])

-- row k of four tables, one for each of four neighbours
abbrev pub table_of : List (List (List Float)) → ℕ → List (List Float)
table_of tables k = rows_of (λ p. get_or (get_or tables p []) k [])

-- The rows over the first j axes of the parts of these axes, and behind them the row of the value. The slopes of axis j do not
-- count yet, so that the value is what part j is so far.
pub record PartLanes (f : Format) (coefs : List Float) (strides : List ℕ) (weights slopes : List (List Float)) (j at : ℕ) (rows : List (List Float)) : Type 0 where
  pub each : (k : ℕ) → k ≤ j → get_or rows k [] ≡ lanes f coefs strides (sloped weights slopes k) j at
