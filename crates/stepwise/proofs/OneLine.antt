-- One line of a map solved, by the numbers that the code works out, for any way of solving a line. Assumes nothing.
use mathlib.Core.Path.{◌≡◌}
use mathlib.Core.List.{List}
use Prim.Native.Nat.{ℕ}
use Rattle.shape.specs.Shape.{longest, points, stride}
use Rattle.shape.specs.Cells.{line, write_line}
use Rattle.shape.specs.Fit.{solve_line, line_scratch, along}
use Rattle.shape.specs.Line.{LineIs}
use Rattle.shape.specs.declared.line.Line.{Line}

module _ {A : Type 0} (o : A) (upper solve : ℕ → (ℕ → A) → ℕ → A) {dims : List ℕ} {a l : ℕ} {found : Line} (x : LineIs dims a l found) {u v : (ℕ → A) → ℕ → A}
    (eu : u ≡ upper a) (ev : v ≡ solve a) (xs ss : List A) where
  pub one-coefs : {xs' : List A} → xs' ≡ write_line found.base found.stride (v (line o found.base found.stride xs)) found.n xs
      → xs' ≡ solve_line o (solve a) (points dims a) (stride dims a) l xs
  unfolding solve_line
  one-coefs w = rw (ev, x.the-points, x.the-stride, x.the-first) at w

  pub one-scratch : {ss' : List A}
      → ss' ≡ line_scratch found.longest (u (line o found.base found.stride xs)) (v (line o found.base found.stride xs)) found.n ss
      → ss' ≡ line_scratch (longest dims) (upper a (along o dims a l xs)) (solve a (along o dims a l xs)) (points dims a) ss
  one-scratch w = rw (eu, ev, x.the-points, x.the-stride, x.the-first, x.the-longest) at w
