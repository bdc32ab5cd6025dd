-- The system of one line of a regular grid: n samples y, n coefficients x. Rows: first 1, -1 with y(0) - y(1); inner 1, 4, 1
-- with 6 y(i); last -1, 1 with y(n-1) - y(n-2). Each operation is rounded to the format f. Assumes nothing.
use Rattle.std.specs.Prelude.{ℕ, ◌-◌, List, Float}
use Rattle.std.specs.Float.Ieee as Ieee
use Rattle.std.specs.Float.{Format}
use Rattle.multibspline.specs.Numbers.{f0, f1, f-1, f4, f6}
use Rattle.multibspline.specs.Thomas.{Row, Reduced}
use Rattle.lines.specs.Rows as Lines
use Rattle.lines.specs.Rows.{Rows}
use Rattle.lines.specs.Turns.{differ_cell}

-- row 0 as it stands is reduced, since its diagonal is 1
abbrev pub first_row : Format → (ℕ → Float) → Reduced
first_row f y = record { upper = f-1; right = Ieee.sub f (y 0) (y 1) }

abbrev pub inner_row : Format → (ℕ → Float) → ℕ → Row
inner_row f y i = record { lower = f1; diag = f4; upper = f1; right = Ieee.mul f f6 (y i) }

-- the last row has no upper number: 0 stands for it
abbrev pub last_row : Format → ℕ → (ℕ → Float) → Row
last_row f n y = record { lower = f-1; diag = f1; upper = f0; right = Ieee.sub f (y (n - 1)) (y (n - 2)) }

-- the same rows by their left and right sides: the system of the lines of an axis of n points
abbrev pub system : Format → ℕ → Rows
system f n = record {
  points = n;
  first_upper = f-1;
  first_right = differ_cell f;
  inner = (λ i. record { lower = f1; diag = f4; upper = f1 });
  inner_right = Ieee.mul f f6;
  last = record { lower = f-1; diag = f1; upper = f0 };
  last_right = differ_cell f;
}

-- the rows reduced, from the first to the last
abbrev pub reduced : Format → ℕ → (ℕ → Float) → List Reduced
reduced f n y = Lines.reduced (system f n) y f

-- upper number i
abbrev pub upper_number : Format → ℕ → (ℕ → Float) → ℕ → Float
upper_number f n y i = Lines.upper_number f (system f n) y i

-- coefficient i
abbrev pub coefficient : Format → ℕ → (ℕ → Float) → ℕ → Float
coefficient f n y i = Lines.coefficient f (system f n) y i
