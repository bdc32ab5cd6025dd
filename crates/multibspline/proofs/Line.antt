-- The checks of `solve_line`, outcome by outcome, and what an accepted line gives. Assumes nothing.
use mathlib.Core.Path.{◌≡◌, sym, ◌∙◌}
use mathlib.Core.Bool.{true, false}
use mathlib.Core.Logic.{⊎_elim}
use Prim.Native.Nat.{ℕ, ◌+◌, ◌-◌, ◌/◌, ◌≤◌, ◌<◌}
use native.Mathlib.Nat.{mul_comm, le-div_iff_mul-le, div-lt_iff_lt-mul}
use native.Mathlib.Omega.{arith}
use borrow.Author.Tests.{lt-ltb, le-ltb, ltb-true, ltb-false, le-leb, lt-leb, not-false}
use lib.Dec.{ltb, leb}
use Rattle.shape.specs.Cells.{on_line}
use Rattle.shape.specs.Checks.{first_refusal}
use Rattle.shape.proofs.Cells.{lt-or-ge}
use Rattle.shape.proofs.Checks.{check-passed}
use Rattle.shape.proofs.Lengths.{or-false}
use Rattle.multibspline.specs.Line.{line_answer}

-- the division test: the last entry is within len
pub ends : (base stride n len : ℕ) → 4 ≤ n → base < len → leb stride ((len - 1 - base) / (n - 1)) ≡ ltb (on_line base stride (n - 1)) len
ends base stride n len h start =
    let pos : 0 < n - 1 = omega arith in
    ⊎_elim
    (λ (p : on_line base stride (n - 1) < len).
    le-leb _ _ ((le-div_iff_mul-le pos).1 (omega (arith, mul_comm stride (n - 1)))) ∙ sym (lt-ltb _ _ p))
    (λ (p : len ≤ on_line base stride (n - 1)).
    lt-leb _ _ ((div-lt_iff_lt-mul pos).1 (omega (arith, mul_comm stride (n - 1)))) ∙ sym (le-ltb _ _ p))
    (lt-or-ge (on_line base stride (n - 1)) len)

module _ (base stride n m coefs scratch : ℕ) where
  pub line-short : n < 4 → ◌≡◌ {A = ℕ} 2 (line_answer base stride n m coefs scratch)
  unfolding line_answer first_refusal
  line-short h = rw (lt-ltb n 4 h)

  pub no-uppers : 4 ≤ n → m < n → ◌≡◌ {A = ℕ} 2 (line_answer base stride n m coefs scratch)
  unfolding line_answer first_refusal
  no-uppers h g = rw (le-ltb n 4 h, lt-ltb m n g)

  pub no-rights : 4 ≤ n → n ≤ m → scratch < m + n → ◌≡◌ {A = ℕ} 2 (line_answer base stride n m coefs scratch)
  unfolding line_answer first_refusal
  no-rights h room g = rw (le-ltb n 4 h, le-ltb m n room, lt-ltb scratch (m + n) g)

  module _ (h : 4 ≤ n) (room : n ≤ m) (fits : m + n ≤ scratch) where
    pub no_line : ltb (on_line base stride (n - 1)) coefs ≡ false → ◌≡◌ {A = ℕ} 2 (line_answer base stride n m coefs scratch)
    unfolding line_answer first_refusal
    no_line g = rw (le-ltb n 4 h, le-ltb m n room, le-ltb scratch (m + n) fits, g)

    pub line-passed : ltb (on_line base stride (n - 1)) coefs ≡ true → ◌≡◌ {A = ℕ} 0 (line_answer base stride n m coefs scratch)
    unfolding line_answer first_refusal
    line-passed g = rw (le-ltb n 4 h, le-ltb m n room, le-ltb scratch (m + n) fits, g)

  -- an accepted line has four points, lies within the coefficients, and has room in scratch
  pub line-fits : ◌≡◌ {A = ℕ} 0 (line_answer base stride n m coefs scratch) → ((4 ≤ n) × (on_line base stride (n - 1) < coefs)) × ((n ≤ m) × (m + n ≤ scratch))
  unfolding line_answer
  line-fits e =
      let a = check-passed _ 2 _ (omega arith) (sym e) in
      let b = check-passed _ 2 _ (omega arith) a.1 in
      let c = check-passed _ 2 _ (omega arith) b.1 in
      let r = or-false (ltb m n) (ltb scratch (m + n)) b.0 in
      ((ltb-false n 4 a.0, ltb-true _ _ (not-false _ c.0)), (ltb-false m n r.0, ltb-false scratch (m + n) r.1))
