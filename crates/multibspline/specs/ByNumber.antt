-- The solve as it was defined before: one function for all rows after the first, which tests for the last row by its number. Kept
-- for the theorem that it is the same as Thomas.antt; that and its two instances alone cite this file. Assumes nothing.
use Rattle.std.specs.Prelude.{◌≡◌, ℕ, zero, suc, ◌-◌, ◌<◌, cond, List, eqb, Float}
use Rattle.std.specs.Float.{Format}
use Rattle.shape.specs.Fit.{line_scratch}
use Rattle.multibspline.specs.Thomas as Thomas
use Rattle.multibspline.specs.Thomas.{Row, Reduced, reduce, back_at, at, uppers}

-- row i of n, after the first
abbrev pub row : (ℕ → Row) → Row → ℕ → ℕ → Row
row inner last n i = cond (eqb i (n - 1)) last (inner i)

-- row i reduced, from row 0 reduced and the rows after it
abbrev pub reduced : Format → Reduced → (ℕ → Row) → ℕ → Reduced
reduced f first row zero = first
reduced f first row (suc i) = reduce f (row (suc i)) (reduced f first row i)

module _ (f : Format) (first : Reduced) (inner : ℕ → Row) (last : Row) (n : ℕ) where
  abbrev pub upper_number : ℕ → Float
  upper_number i = (reduced f first (row inner last n) i).upper

  abbrev pub right_side : ℕ → Float
  right_side i = (reduced f first (row inner last n) i).right

  -- x(i)
  abbrev pub solution : ℕ → Float
  solution i = back_at f upper_number right_side (n - 1) i

  -- the two agree: in every upper number, every coefficient, and every cell of scratch, whatever was in it
  pub record Same : Type 0 where
    pub upper-numbers : (i : ℕ) → i < n → at (uppers (Thomas.forward f first inner last n)) i ≡ upper_number i
    pub coefficients : (i : ℕ) → Thomas.solution f first inner last n i ≡ solution i
    pub scratch : (m : ℕ) (cells : List Float)
        → line_scratch m (at (uppers (Thomas.forward f first inner last n))) (Thomas.solution f first inner last n) n cells ≡ line_scratch m upper_number solution n cells
