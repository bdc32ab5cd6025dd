-- Laws of the rows of a system, for both formats: a line's numbers depend on its own samples only. Assumes nothing.
use mathlib.Core.Path.{◌≡◌}
use Prim.Native.Nat.{ℕ, ◌-◌, ◌≤◌, ◌<◌}
use native.Mathlib.Omega.{arith}
use lib.Ieee.{Float, Format}
use Rattle.shape.specs.Fit.{Looks}
use Rattle.multibspline.proofs.Thomas.{forward-ext}
use Rattle.lines.specs.Rows.{Rows, first_row, inner_row, last_row, reduced, upper_number, coefficient}

module _ (s : Rows) (four : 4 ≤ s.points) (y z : ℕ → Float) (e : (k : ℕ) → k < s.points → y k ≡ z k) where
  first-ext : first_row s y ≡ first_row s z
  first-ext = rw (e 0 (omega arith), e 1 (omega arith))

  inner-ext : (k : ℕ) → 0 < k → k < s.points - 1 → inner_row s y k ≡ inner_row s z k
  inner-ext k pos h = rw (e k (omega arith))

  last-ext : last_row s y ≡ last_row s z
  last-ext = rw (e (s.points - 1) (omega arith), e (s.points - 2) (omega arith))

  reduced-ext : (f : Format) → reduced s y f ≡ reduced s z f
  reduced-ext f = forward-ext f s.points _ _ _ _ _ _ first-ext inner-ext last-ext (omega arith)

pub looks-upper : (f : Format) (s : Rows) → 4 ≤ s.points → Looks (upper_number f s) s.points
looks-upper f s four y z e i h = rw (reduced-ext s four y z e f)

pub looks-coefficient : (f : Format) (s : Rows) → 4 ≤ s.points → Looks (coefficient f s) s.points
looks-coefficient f s four y z e i h = rw (reduced-ext s four y z e f)
