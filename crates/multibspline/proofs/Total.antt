-- Demand 1 for `solve_line`, on either grid. Assumes nothing.
use mathlib.Core.Path.{◌≡◌, refl}
use mathlib.Core.Logic.{◌↔◌}
use mathlib.Core.Bool.{false, not, ◌||◌}
use Prim.Native.Nat.{ℕ, ◌+◌, ◌-◌, ◌≤◌, ◌<◌}
use borrow.Author.Tests.{lt-ltb, le-ltb, ltb-true, ltb-false, not-false}
use lib.Dec.{ltb}
use Rattle.shape.specs.Cells.{on_line}
use Rattle.shape.proofs.Lengths.{or-false}
use Rattle.shape.proofs.Outcome.{none, test, total}
use Rattle.multibspline.specs.Line.{line_answer}
use Rattle.multibspline.specs.Total.{LineTotal}

room : (n m scratch : ℕ) → (ltb m n || ltb scratch (m + n) ≡ false) ↔ ((n ≤ m) × (m + n ≤ scratch))
room n m scratch = (
  (λ e. let q = or-false (ltb m n) (ltb scratch (m + n)) e in (ltb-false m n q.0, ltb-false scratch (m + n) q.1)),
  (λ h. rw (le-ltb m n h.0, le-ltb scratch (m + n) h.1)),
)

inside : (last coefs : ℕ) → (not (ltb last coefs) ≡ false) ↔ (last < coefs)
inside last coefs = ((λ e. ltb-true last coefs (not-false (ltb last coefs) e)), (λ h. rw (lt-ltb last coefs h)))

pub line-total : LineTotal
unfolding line_answer
line-total base stride n m coefs scratch =
    total (test refl (ltb-false n 4, le-ltb n 4) (λ _. test refl (room n m scratch) (λ _. test refl (inside (on_line base stride (n - 1)) coefs) (λ _. none))))
