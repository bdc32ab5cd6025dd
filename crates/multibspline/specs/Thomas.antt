-- The Thomas algorithm on a tridiagonal system of n rows, each operation rounded to the format f.
-- Row i says lower · x(i-1) + diag · x(i) + upper · x(i+1) = right. Four steps: the first row, the inner rows, the last row, back
-- substitution. Assumes nothing.
use Rattle.std.specs.Prelude.{ℕ, zero, suc, ◌-◌, List, [], ◌∷◌, ◌++◌, map, get_or, Float}
use Rattle.std.specs.List.{range_with_len}
use Rattle.std.specs.Float.Ieee as Ieee
use Rattle.std.specs.Float.{Format, nan}

-- the left side of a row
pub record Left : Type 0 where
  pub lower : Float
  pub diag : Float
  pub upper : Float

pub record Row : Type 0 where
  pub lower : Float
  pub diag : Float
  pub upper : Float
  pub right : Float

abbrev pub with_right : Left → Float → Row
with_right left right = record { lower = left.lower; diag = left.diag; upper = left.upper; right = right }

-- a row from which x(i-1) has been eliminated and whose diagonal is 1: x(i) + upper · x(i+1) = right
pub record Reduced : Type 0 where
  pub upper : Float
  pub right : Float

-- a row, with the reduced row before it eliminated
abbrev pub denom : Format → Row → Reduced → Float
denom f row before = Ieee.sub f row.diag (Ieee.mul f row.lower before.upper)

abbrev pub reduce : Format → Row → Reduced → Reduced
reduce f row before = record {
  upper = Ieee.div f row.upper (denom f row before);
  right = Ieee.div f (Ieee.sub f row.right (Ieee.mul f row.lower before.right)) (denom f row before);
}

-- ---- 1. the first row: divided by its diagonal, since nothing stands before it. Where that is 1 it is reduced as it stands

abbrev pub divided : Format → Row → Reduced
divided f row = record { upper = Ieee.div f row.upper row.diag; right = Ieee.div f row.right row.diag }

-- ---- 2. the inner rows, 1 to n - 2, one after the other

-- row i reduced, with the rows before it; row 0 is the first
abbrev pub inner_reduced : Format → Reduced → (ℕ → Row) → ℕ → Reduced
inner_reduced f first inner zero = first
inner_reduced f first inner (suc i) = reduce f (inner (suc i)) (inner_reduced f first inner i)

-- ---- 3. the last row, n - 1

abbrev pub last_reduced : Format → Reduced → (ℕ → Row) → Row → ℕ → Reduced
last_reduced f first inner last n = reduce f last (inner_reduced f first inner (n - 2))

-- the n rows reduced, from the first to the last
abbrev pub forward : Format → Reduced → (ℕ → Row) → Row → ℕ → List Reduced
forward f first inner last n = map (inner_reduced f first inner) (range_with_len 0 (n - 1)) ++ last_reduced f first inner last n ∷ []

-- ---- 4. back substitution, from x(n - 1) to x(0)

-- in a reduced row: x(i) = right - upper · x(i+1)
abbrev pub back_step : Format → Float → Float → Float → Float
back_step f upper right next = Ieee.sub f right (Ieee.mul f upper next)

-- x(last - k), from x(last) = right(last)
abbrev pub back : Format → (ℕ → Float) → (ℕ → Float) → ℕ → ℕ → Float
back f upper right last zero = right last
back f upper right last (suc k) = back_step f (upper (last - suc k)) (right (last - suc k)) (back f upper right last k)

-- x(i)
abbrev pub back_at : Format → (ℕ → Float) → (ℕ → Float) → ℕ → ℕ → Float
back_at f upper right last i = back f upper right last (last - i)

-- number i of a list
abbrev pub at : List Float → ℕ → Float
at xs i = get_or xs i nan

-- the upper numbers and the right sides of reduced rows
abbrev pub uppers : List Reduced → List Float
uppers rows = map (λ (row : Reduced). row.upper) rows

abbrev pub rights : List Reduced → List Float
rights rows = map (λ (row : Reduced). row.right) rows

-- ---- x(i) of a system of n rows: forward elimination and back substitution

abbrev pub solution : Format → Reduced → (ℕ → Row) → Row → ℕ → ℕ → Float
solution f first inner last n i =
    let rows = forward f first inner last n in
    back_at f (at (uppers rows)) (at (rights rows)) (n - 1) i
