-- The system of one line of a rectilinear grid: n knots ks, n samples y, n coefficients x. The basis functions at each knot
-- give its row. The two end rows have the ghost coefficient of their end folded in, and the third term that this brings is
-- eliminated by the row beside. Each operation is rounded to the format f, in the Rust's order. Assumes nothing.
--     low, high   the ghost numbers of the two ends
use Rattle.std.specs.Prelude.{ℕ, ◌-◌, List, length, Float}
use Rattle.std.specs.Float.{Format}
use Rattle.std.specs.Float.Ieee.{add, sub, mul, div}
use Rattle.multibspline.specs.Numbers.{f0}
use Rattle.multibspline.specs.Thomas.{Left, Row, Reduced, with_right, divided, at}
use Rattle.lines.specs.Rows as Lines
use Rattle.lines.specs.Rows.{Rows}
use Rattle.lines.specs.Turns.{less_cell, step_cell}
use Rattle.rectilinear_basis.specs.Basis.{basis_span_weights}

-- the four weights of span i at knot k
abbrev pub at_knot : Format → List Float → ℕ → ℕ → List Float
at_knot f ks i k = basis_span_weights f ks i (at ks k)

-- a + w g, and a - factor b
abbrev pub plus : Format → Float → Float → Float → Float
plus f a w g = add f a (mul f w g)

abbrev pub less : Format → Float → Float → Float → Float
less f a factor b = sub f a (mul f factor b)

-- what the row beside an end row is multiplied by to take the third term away: beside the first row, from the weights w at the
-- first knot and v at the second; beside the last, from the weights w at the last knot and v at the one before
unfoldable pub low_factor : Format → List Float → List Float → List Float → Float
low_factor f w v low = div f (plus f (at w 3) (at w 0) (at low 2)) (at v 2)

unfoldable pub high_factor : Format → List Float → List Float → List Float → Float
high_factor f w v high = div f (plus f (at w 0) (at w 3) (at high 0)) (at v 0)

-- the left sides after that. The first row has no lower number, the last no upper number: 0 stands for it
unfoldable pub low_left : Format → List Float → List Float → List Float → Left
low_left f w v low = record {
  lower = f0;
  diag = less f (plus f (at w 1) (at w 0) (at low 0)) (low_factor f w v low) (at v 0);
  upper = less f (plus f (at w 2) (at w 0) (at low 1)) (low_factor f w v low) (at v 1);
}

unfoldable pub high_left : Format → List Float → List Float → List Float → Left
high_left f w v high = record {
  lower = less f (plus f (at w 1) (at w 3) (at high 1)) (high_factor f w v high) (at v 1);
  diag = less f (plus f (at w 2) (at w 3) (at high 2)) (high_factor f w v high) (at v 2);
  upper = f0;
}

-- the first row: the low ghost is folded in, and x(2) eliminated by row 1
abbrev pub low_row : Format → List Float → List Float → List Float → Float → Float → Row
low_row f w v low y0 y1 = with_right (low_left f w v low) (less f y0 (low_factor f w v low) y1)

-- the last row: the high ghost is folded in, and x(n - 3) eliminated by row n - 2
abbrev pub high_row : Format → List Float → List Float → List Float → Float → Float → Row
high_row f w v high before y = with_right (high_left f w v high) (less f y (high_factor f w v high) before)

-- the first row is reduced by its diagonal
abbrev pub first_row : Format → List Float → List Float → (ℕ → Float) → Reduced
first_row f ks low y = divided f (low_row f (at_knot f ks 0 0) (at_knot f ks 1 1) low (y 0) (y 1))

abbrev pub inner_row : Format → List Float → (ℕ → Float) → ℕ → Row
inner_row f ks y i = let w = at_knot f ks i i in record { lower = at w 0; diag = at w 1; upper = at w 2; right = y i }

abbrev pub last_row : Format → List Float → List Float → (ℕ → Float) → Row
last_row f ks high y =
    let n = length ks in
    high_row f (at_knot f ks (n - 2) (n - 1)) (at_knot f ks (n - 2) (n - 2)) high (y (n - 2)) (y (n - 1))

module _ (f : Format) (ks low high : List Float) where
  -- the same rows by their left and right sides: the system of the lines of the axis
  abbrev pub system : Rows
  system =
      let n = length ks in
      let w = at_knot f ks 0 0 in
      let v = at_knot f ks 1 1 in
      let w' = at_knot f ks (n - 2) (n - 1) in
      let v' = at_knot f ks (n - 2) (n - 2) in
      record {
        points = n;
        first_upper = div f (low_left f w v low).upper (low_left f w v low).diag;
        first_right = step_cell f (low_factor f w v low) (low_left f w v low).diag;
        inner = (λ i. record { lower = at (at_knot f ks i i) 0; diag = at (at_knot f ks i i) 1; upper = at (at_knot f ks i i) 2 });
        inner_right = (λ y. y);
        last = high_left f w' v' high;
        last_right = less_cell f (high_factor f w' v' high);
      }

  -- the rows reduced, from the first to the last
  abbrev pub reduced : (ℕ → Float) → List Reduced
  reduced y = Lines.reduced system y f

  -- upper number i
  abbrev pub upper_number : (ℕ → Float) → ℕ → Float
  upper_number y i = Lines.upper_number f system y i

  -- coefficient i
  abbrev pub coefficient : (ℕ → Float) → ℕ → Float
  coefficient y i = Lines.coefficient f system y i
