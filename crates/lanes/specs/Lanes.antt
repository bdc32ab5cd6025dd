-- Lines that lie side by side, called lanes, and sweeps over one row of them. On an axis of n points that are s apart, lane j
-- of m is line first + j, and its entry i is cell first * n + j * t + i * s. In a slab t is 1 and m is s; on the last axis s
-- is 1 and t is n. For contracts inside the library. Assumes nothing.
use Rattle.std.specs.Prelude.{◌≡◌, ◌≢◌, List, ℕ, zero, suc, ◌+◌, ◌-◌, ◌*◌, ◌≤◌, ◌<◌, length, Float}
use Rattle.std.specs.Float.{Format, nan}
use Rattle.shape.specs.Shape.{first_cell}
use Rattle.shape.specs.Cells.{on_line, line, write_line}
use Rattle.shape.specs.Fit.{solve_line}
use Rattle.multibspline.specs.Numbers.{f0}
use Rattle.multibspline.specs.Thomas.{at}
use Rattle.lines.specs.Turns.{less_cell}

-- the lanes lie within len cells
pub record Lanes (n s first t m len : ℕ) : Type 0 where
  pub four-points : 4 ≤ n
  pub stride-pos : 0 < s
  pub some : 0 < m
  pub starts : (j : ℕ) → j < m → first_cell n s (first + j) ≡ on_line (first * n) t j
  pub within : (i j : ℕ) → i < n → j < m → on_line (on_line (first * n) t j) s i < len

-- the m lines from `first` on solved, in order
module _ {A : Type 0} (o : A) (solve : (ℕ → A) → ℕ → A) (n s first : ℕ) where
  unfoldable pub solve_from : ℕ → List A → List A
  solve_from zero xs = xs
  solve_from (suc m) xs = solve_line o solve n s (first + m) (solve_from m xs)

-- samples of 0: what does not depend on the samples is taken from these
abbrev pub zero_samples : ℕ → Float
zero_samples i = f0

-- u has the upper numbers of every line: they do not depend on its samples
pub record Uppers (upper : (ℕ → Float) → ℕ → Float) (n : ℕ) (u : List Float) : Type 0 where
  pub room : n ≤ length u
  pub hold : (y : ℕ → Float) (i : ℕ) → i < n → at u i ≡ upper y i

-- ---- a row: m cells that are t apart

-- the row from p on and the row from q on lie within len cells; no cell of the first is set before it is read
pub record Beside (p q t m len : ℕ) : Type 0 where
  pub here : (j : ℕ) → j < m → on_line p t j < len
  pub there : (j : ℕ) → j < m → on_line q t j < len
  pub apart : (h j : ℕ) → h < j → j < m → on_line p t j ≢ on_line p t h
  pub apart-there : (h j : ℕ) → h < j → j < m → on_line q t j ≢ on_line p t h

-- each cell x of the row from p on becomes op x z, z the cell of the row from q on that is beside it
unfoldable pub swept : (Float → Float → Float) → ℕ → ℕ → ℕ → ℕ → List Float → List Float
swept op p q t m xs = write_line p t (λ j. op (line nan p t xs j) (line nan q t xs j)) m xs

-- the rows of m lanes, t apart, row i from base + i * s on; op i is done to row i
module _ (op : ℕ → Float → Float → Float) (base t s m : ℕ) where
  -- rows 1 to k, each with the row before it
  unfoldable pub sweep_up : ℕ → List Float → List Float
  sweep_up zero xs = xs
  sweep_up (suc k) xs = swept (op (suc k)) (on_line base s (suc k)) (on_line base s k) t m (sweep_up k xs)

  -- the k rows before row `last`, from there down, each with the row after it
  unfoldable pub sweep_down : ℕ → ℕ → List Float → List Float
  sweep_down last zero xs = xs
  sweep_down last (suc k) xs = swept (op (last - suc k)) (on_line base s (last - suc k)) (on_line base s (suc (last - suc k))) t m (sweep_down last k xs)

-- back substitution in row i, with the upper numbers in u
unfoldable pub back_cell : Format → List Float → ℕ → Float → Float → Float
back_cell f u i = less_cell f (at u i)
