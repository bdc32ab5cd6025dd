-- The lines from some line on, solved one after the other: cell by cell, and after the lines before them. Assumes nothing.
use mathlib.Core.Path.{◌≡◌, refl, ◌∙◌}
use mathlib.Core.Logic.{◌≢◌, ◌⊎◌, inl, inr}
use mathlib.Core.List.{List}
use Prim.Native.Nat.{ℕ, zero, suc, ◌+◌, ◌-◌, ◌<◌}
use native.Mathlib.Nat.{not-suc-le-zero, eq-or-lt_of_le, le_of_suc-le-suc}
use native.Mathlib.Omega.{arith}
use lib.ListN.{length, get_or}
use Rattle.shape.specs.Shape.{first_cell, line_of, place_of}
use Rattle.shape.specs.Cells.{on_line, line}
use Rattle.shape.specs.Fit.{Looks, solve_line, solve_lines}
use Rattle.shape.proofs.Fit.{length-solve_line, solved-off, solved-on}
use Rattle.shape.proofs.Radix.{line_of-cell, place_of-lt}
use Rattle.lanes.specs.Lanes.{solve_from}

module _ {A : Type 0} (o : A) (solve : (ℕ → A) → ℕ → A) (n s first : ℕ) where
  pub length-solve_from : (m : ℕ) (xs : List A) → length (solve_from o solve n s first m xs) ≡ length xs
  unfolding solve_from
  length-solve_from zero xs = refl
  length-solve_from (suc m) xs = length-solve_line o solve n s (first + m) (solve_from o solve n s first m xs) ∙ length-solve_from m xs

  -- after the lines before them
  pub lines_from : (m : ℕ) (xs : List A) → solve_from o solve n s first m (solve_lines o solve n s first xs) ≡ solve_lines o solve n s (first + m) xs
  unfolding solve_from solve_lines
  lines_from zero xs = let e : first + 0 ≡ first = omega arith in rw e
  lines_from (suc m) xs = let e : first + suc m ≡ suc (first + m) = omega arith in rw (e, lines_from m xs)

  module _ (hs : 0 < s) where
    -- a cell of another line keeps what it has
    pub from-off : (m : ℕ) (xs : List A) (c : ℕ) → ((j : ℕ) → j < m → line_of n s c ≢ first + j) → get_or (solve_from o solve n s first m xs) c o ≡ get_or xs c o
    unfolding solve_from
    from-off zero xs c away = refl
    from-off (suc m) xs c away =
        solved-off o solve n s hs (first + m) (solve_from o solve n s first m xs) c (away m (omega arith))
        ∙ from-off m xs c (λ j h. away j (omega arith))

    -- a cell of one of them has its coefficient
    pub from_on : Looks solve n → 0 < n → (xs : List A) (m : ℕ) → ((j : ℕ) → j < m → on_line (first_cell n s (first + j)) s (n - 1) < length xs) → (c j : ℕ) → j < m → line_of n s c ≡ first + j
        → get_or (solve_from o solve n s first m xs) c o ≡ solve (line o (first_cell n s (first + j)) s xs) (place_of n s c)
    unfolding solve_from
    from_on looks hn xs zero fits c j h e = absurd (not-suc-le-zero h)
    from_on looks hn xs (suc m) fits c j h e = go (eq-or-lt_of_le (le_of_suc-le-suc h)) (λ h'. from_on looks hn xs m (λ i k. fits i (omega arith)) c j h' e)
      where
        ys : List A
        ys = solve_from o solve n s first m xs

        before : (k : ℕ) → k < n → line o (first_cell n s (first + m)) s ys k ≡ line o (first_cell n s (first + m)) s xs k
        before k hk = from-off m xs (on_line (first_cell n s (first + m)) s k) (λ i p w. omega (arith, line_of-cell n s hs (first + m) k hk, w))

        go : (j ≡ m) ⊎ (j < m) → (j < m → get_or ys c o ≡ solve (line o (first_cell n s (first + j)) s xs) (place_of n s c))
            → get_or (solve_line o solve n s (first + m) ys) c o ≡ solve (line o (first_cell n s (first + j)) s xs) (place_of n s c)
        go (inl same) ih =
            let here : line_of n s c ≡ first + m = omega arith in
            solved-on o solve n s hs (first + m) ys c hn (rw (length-solve_from m xs) (fits m (omega arith))) here
            ∙ looks (line o (first_cell n s (first + m)) s ys) (line o (first_cell n s (first + m)) s xs) before (place_of n s c) (place_of-lt n s c hn)
            ∙ rw same
        go (inr less) ih = solved-off o solve n s hs (first + m) ys c (λ w. omega arith) ∙ ih less
