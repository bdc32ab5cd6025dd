-- The solve as the books print it is the solve as it was defined before: in every upper number, every coefficient and every cell of
-- scratch. For both formats and any rows. Assumes nothing.
use mathlib.Core.Path.{◌≡◌, refl, ap, ap₂, sym, ◌∙◌}
use mathlib.Core.Bool.{Bool, cond}
use mathlib.Core.Logic.{⊎_elim}
use mathlib.Core.List.{map}
use Prim.Native.Nat.{ℕ, zero, suc, ◌-◌, ◌≤◌, ◌<◌}
use native.Mathlib.Nat.{eq-or-lt_of_le}
use native.Mathlib.Omega.{arith}
use borrow.Author.Tests.{eq-eqb, ne_eqb}
use lib.Ieee.{Float, Format}
use Rattle.shape.proofs.Scratch.{scratch-ext}
use Rattle.multibspline.specs.Thomas.{Row, Reduced, at, reduce, inner_reduced, last_reduced, forward, solution}
use Rattle.multibspline.specs.ByNumber as ByNumber
use Rattle.multibspline.specs.ByNumber.{row, reduced, Same}
use Rattle.multibspline.proofs.Sweeps.{back-ext}
use Rattle.multibspline.proofs.Thomas.{number-inner, number_last}

module _ (f : Format) (first : Reduced) (inner : ℕ → Row) (last : Row) (n : ℕ) (four : 4 ≤ n) where
  row-inner : (i : ℕ) → i < n - 1 → row inner last n i ≡ inner i
  row-inner i h = ap (λ (b : Bool). cond b last (inner i)) (ne_eqb i _ (λ e. omega arith))

  row_last : row inner last n (n - 1) ≡ last
  row_last = ap (λ (b : Bool). cond b last (inner (n - 1))) (eq-eqb (n - 1) _ refl)

  reduced-inner : (i : ℕ) → i < n - 1 → inner_reduced f first inner i ≡ reduced f first (row inner last n) i
  reduced-inner zero h = refl
  reduced-inner (suc i) h = ap₂ (reduce f) (sym (row-inner (suc i) h)) (reduced-inner i (omega arith))

  reduced_last : last_reduced f first inner last n ≡ reduced f first (row inner last n) (n - 1)
  reduced_last =
      let a : suc (n - 2) ≡ n - 1 = omega arith in
      ap₂ (reduce f) (sym row_last ∙ ap (row inner last n) (sym a)) (reduced-inner (n - 2) (omega arith)) ∙ ap (reduced f first (row inner last n)) a

  -- a number of row i
  numbers : (number : Reduced → Float) (i : ℕ) → i < n → at (map number (forward f first inner last n)) i ≡ number (reduced f first (row inner last n) i)
  numbers number i h =
      ⊎_elim
      (λ (same : i ≡ n - 1). rw same (number_last f first inner last n number ∙ ap number reduced_last))
      (λ (less : i < n - 1). number-inner f first inner last n number i less ∙ ap number (reduced-inner i less))
      (eq-or-lt_of_le (omega arith))

  pub by_number : Same f first inner last n
  by_number =
      let upper = numbers (λ r. r.upper) in
      let right = numbers (λ r. r.right) in
      let x : (i : ℕ) → solution f first inner last n i ≡ ByNumber.solution f first inner last n i = λ i. back-ext f _ _ _ _ (n - 1) (λ k h. upper k (omega arith)) (λ k h. right k (omega arith)) (n - 1 - i) in
      record {
        upper-numbers = upper;
        coefficients = x;
        scratch = (λ m cells. scratch-ext m _ _ _ _ n cells upper (λ k h. x k));
      }
