-- The fit, cell by cell: after a + 1 axes a cell has what the solver makes, at its place, of what the fit after a axes has
-- along the cell's line of axis a. Assumes nothing.
use mathlib.Core.Path.{◌≡◌, refl, sym, ap, ◌∙◌}
use mathlib.Core.Logic.{◌≢◌, ◌⊎◌, inl, inr}
use mathlib.Core.List.{List}
use Prim.Native.Nat.{ℕ, zero, suc, ◌+◌, ◌-◌, ◌*◌, ◌≤◌, ◌<◌}
use native.Mathlib.Nat.{not-suc-le-zero, eq-or-lt_of_le, le_of_suc-le-suc}
use native.Mathlib.Omega.{arith}
use lib.ListN.{length, get_or}
use Rattle.shape.specs.Shape.{size, points, NotEmpty, stride, lines, first_cell, line_of, place_of, line_at, place_at}
use Rattle.shape.specs.Cells.{on_line, line}
use Rattle.shape.specs.Fit.{Looks, solve_line, solve_lines, along, fit_after}
use Rattle.shape.proofs.Cells.{length-put, line-in, line-out}
use Rattle.shape.proofs.Radix.{stride-pos, line_of-cell, cell-line_of, place_of-lt, line_at-lt, cell_at-lt}

-- ---- the lines of an axis of n points that are s apart

module _ {A : Type 0} (o : A) (solve : (ℕ → A) → ℕ → A) (n s : ℕ) where
  pub length-solve_line : (l : ℕ) (xs : List A) → length (solve_line o solve n s l xs) ≡ length xs
  unfolding solve_line
  length-solve_line l xs = length-put _ _ n xs

  pub length-solve_lines : (m : ℕ) (xs : List A) → length (solve_lines o solve n s m xs) ≡ length xs
  unfolding solve_lines
  length-solve_lines zero xs = refl
  length-solve_lines (suc m) xs = length-solve_line m (solve_lines o solve n s m xs) ∙ length-solve_lines m xs

  module _ (hs : 0 < s) where
    -- a cell of another line keeps what it has; a cell of the line has its coefficient
    pub solved-off : (l : ℕ) (xs : List A) (c : ℕ) → line_of n s c ≢ l → get_or (solve_line o solve n s l xs) c o ≡ get_or xs c o
    unfolding solve_line
    solved-off l xs c h =
        line-out (first_cell n s l) s (solve (line o (first_cell n s l) s xs)) n xs o c
        (λ k hk e. h (ap (line_of n s) e ∙ line_of-cell n s hs l k hk))

    pub solved-on : (l : ℕ) (xs : List A) (c : ℕ) → 0 < n → on_line (first_cell n s l) s (n - 1) < length xs → line_of n s c ≡ l
        → get_or (solve_line o solve n s l xs) c o ≡ solve (line o (first_cell n s l) s xs) (place_of n s c)
    unfolding solve_line
    solved-on l xs c hn last e =
        let back : first_cell n s l + place_of n s c * s ≡ c = rw e at (cell-line_of n s hs c) in
        ap (λ (k : ℕ). get_or (solve_line o solve n s l xs) k o) (sym back)
        ∙ line-in (first_cell n s l) s (solve (line o (first_cell n s l) s xs)) n xs o (place_of n s c) hs (place_of-lt n s c hn) last

    -- lines that are not solved yet keep what they have
    pub later : (m : ℕ) (xs : List A) (c : ℕ) → m ≤ line_of n s c → get_or (solve_lines o solve n s m xs) c o ≡ get_or xs c o
    unfolding solve_lines
    later zero xs c h = refl
    later (suc m) xs c h = solved-off m (solve_lines o solve n s m xs) c (omega arith) ∙ later m xs c (omega arith)

    pub line-later : (l m : ℕ) (xs : List A) → m ≤ l → (k : ℕ) → k < n → line o (first_cell n s l) s (solve_lines o solve n s m xs) k ≡ line o (first_cell n s l) s xs k
    line-later l m xs h k hk = later m xs (on_line (first_cell n s l) s k) (omega (arith, line_of-cell n s hs l k hk))

    -- lines that are solved have their coefficients
    pub earlier : Looks solve n → 0 < n → (xs : List A) (m : ℕ) → ((l : ℕ) → l < m → on_line (first_cell n s l) s (n - 1) < length xs) → (c : ℕ) → line_of n s c < m
        → get_or (solve_lines o solve n s m xs) c o ≡ solve (line o (first_cell n s (line_of n s c)) s xs) (place_of n s c)
    unfolding solve_lines
    earlier looks hn xs zero fits c h = absurd (not-suc-le-zero h)
    earlier looks hn xs (suc m) fits c h = go (eq-or-lt_of_le (le_of_suc-le-suc h)) (λ h'. earlier looks hn xs m (λ l k. fits l (omega arith)) c h')
      where
        ys : List A
        ys = solve_lines o solve n s m xs

        go : (line_of n s c ≡ m) ⊎ (line_of n s c < m)
            → (line_of n s c < m → get_or ys c o ≡ solve (line o (first_cell n s (line_of n s c)) s xs) (place_of n s c))
            → get_or (solve_line o solve n s m ys) c o ≡ solve (line o (first_cell n s (line_of n s c)) s xs) (place_of n s c)
        go (inl e) ih =
            solved-on m ys c hn (rw (length-solve_lines m xs) (fits m (omega arith))) e
            ∙ looks (line o (first_cell n s m) s ys) (line o (first_cell n s m) s xs) (λ k hk. line-later m m xs (omega arith) k hk) (place_of n s c) (place_of-lt n s c hn)
            ∙ rw e
        go (inr k) ih = solved-off m ys c (omega arith) ∙ ih k

-- ---- all axes

module _ {A : Type 0} (o : A) (solve : ℕ → (ℕ → A) → ℕ → A) (dims : List ℕ) where
  pub length-fit_after : (a : ℕ) (samples : List A) → length (fit_after o solve dims a samples) ≡ length samples
  unfolding fit_after
  length-fit_after zero samples = refl
  length-fit_after (suc a) samples =
      length-solve_lines o (solve a) (points dims a) (stride dims a) (lines dims a) (fit_after o solve dims a samples) ∙ length-fit_after a samples

  pub fit-step : NotEmpty dims → ((a : ℕ) → a < length dims → Looks (solve a) (points dims a)) → (samples : List A) → length samples ≡ size dims
      → (a : ℕ) → a < length dims → (c : ℕ) → c < size dims
      → get_or (fit_after o solve dims (suc a) samples) c o ≡ solve a (along o dims a (line_at dims a c) (fit_after o solve dims a samples)) (place_at dims a c)
  unfolding fit_after
  fit-step ne looks samples hx a ha c hc =
      earlier o (solve a) (points dims a) (stride dims a) (stride-pos dims ne a) (looks a ha) (ne a ha) (fit_after o solve dims a samples) (lines dims a)
      (λ l hl. rw (length-fit_after a samples, hx) (cell_at-lt dims ne a ha l (points dims a - 1) hl (let p : 0 < points dims a = ne a ha in omega arith)))
      c (line_at-lt dims ne a ha c hc)
