-- A line, by the numbers that the code works out, for any way of solving a line. Assumes nothing.
use mathlib.Core.Path.{◌≡◌}
use mathlib.Core.List.{List}
use Prim.Native.Nat.{ℕ, ◌*◌, ◌≤◌, ◌<◌}
use native.Mathlib.Omega.{arith}
use Rattle.shape.specs.Shape.{first_cell}
use Rattle.shape.specs.Cells.{line, write_line}
use Rattle.shape.specs.Checks.{most_points}
use Rattle.shape.specs.Fit.{solve_line, line_scratch, line_leaves}
use Rattle.shape.specs.Usable.{LinesWithin}

-- the first cell is a number that the code can work out
pub first-cell-room : {n s lines m coefs scratch l : ℕ} → LinesWithin n s lines m coefs scratch → l < lines → (0 < s) × (n * s ≤ most_points) × (first_cell n s l < most_points)
first-cell-room {l = l} w h = (w.stride-pos, w.row_small, omega (arith, w.inside l h, w.few-points))

module _ {A : Type 0} (o : A) (upper solve : (ℕ → A) → ℕ → A) (n s m : ℕ) where
  -- the line solved, by the first cell that the code works out
  module _ (l b : ℕ) (xs ss : List A) (e : b ≡ first_cell n s l) where
    pub nth-coefs : {xs' : List A} → xs' ≡ write_line b s (solve (line o b s xs)) n xs → xs' ≡ solve_line o solve n s l xs
    unfolding solve_line
    nth-coefs w = rw e at w

    pub nth-scratch : {ss' : List A} → ss' ≡ line_scratch m (upper (line o b s xs)) (solve (line o b s xs)) n ss → ss' ≡ line_leaves o upper solve n s m l xs ss
    unfolding line_leaves
    nth-scratch w = rw e at w
