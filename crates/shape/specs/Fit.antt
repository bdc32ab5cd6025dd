-- The fit of a map, axis by axis and line by line, for any way of solving a line; what it leaves in scratch; and what a call
-- that fits leaves. Assumes nothing.
--     o        the element read past the end of a list (never, in what is proved)
--     solve    coefficient i of a line from the line's samples y: `solve y i`; of a line of axis a, `solve a y i`
--     upper    upper number i of the elimination of that line
use Rattle.std.specs.Prelude.{◌≡◌, cond, List, ℕ, zero, suc, ◌-◌, ◌<◌, eqb, length}
use Rattle.shape.specs.Shape.{longest, points, stride, lines, first_cell, first}
use Rattle.shape.specs.Cells.{put, from, line, write_line}

-- what a solver owes: to coefficient i of a line of n points only the samples of that line matter
abbrev pub Looks : {A : Type 0} → ((ℕ → A) → ℕ → A) → ℕ → Type 0
Looks {A} solve n = (y z : ℕ → A) → ((k : ℕ) → k < n → y k ≡ z k) → (i : ℕ) → i < n → solve y i ≡ solve z i

-- ---- an axis of n points that are s apart

module _ {A : Type 0} (o : A) (solve : (ℕ → A) → ℕ → A) (n s : ℕ) where
  -- line l solved: its samples are replaced by its coefficients
  unfoldable pub solve_line : ℕ → List A → List A
  solve_line l xs = write_line (first_cell n s l) s (solve (line o (first_cell n s l) s xs)) n xs

  -- the lines below m solved, in order
  unfoldable pub solve_lines : ℕ → List A → List A
  solve_lines zero xs = xs
  solve_lines (suc m) xs = solve_line m (solve_lines m xs)

-- what solving a line of n points leaves in scratch: its upper numbers from 0 on, and from m on its right sides, which hold
-- the coefficients once they are solved for; m is the length of the longest axis
unfoldable pub line_scratch : {A : Type 0} → ℕ → (ℕ → A) → (ℕ → A) → ℕ → List A → List A
line_scratch m upper right n scratch = put (from m) right n (put (from 0) upper n scratch)

module _ {A : Type 0} (o : A) (upper solve : (ℕ → A) → ℕ → A) (n s : ℕ) where
  -- what line l of xs leaves in scratch
  unfoldable pub line_leaves : ℕ → ℕ → List A → List A → List A
  line_leaves m l xs scratch = line_scratch m (upper (line o (first_cell n s l) s xs)) (solve (line o (first_cell n s l) s xs)) n scratch

-- ---- all axes

-- the entries along line l of axis a
abbrev pub along : {A : Type 0} → A → List ℕ → ℕ → ℕ → List A → ℕ → A
along o dims a l xs = line o (first dims a l) (stride dims a) xs

module _ {A : Type 0} (o : A) (solve : ℕ → (ℕ → A) → ℕ → A) (dims : List ℕ) where
  -- each line of axis a solved
  abbrev pub solve_axis : ℕ → List A → List A
  solve_axis a xs = solve_lines o (solve a) (points dims a) (stride dims a) (lines dims a) xs

  -- the fit after 0 axes is the samples; after a + 1 axes it is the fit after a axes with each line of axis a solved
  unfoldable pub fit_after : ℕ → List A → List A
  fit_after zero samples = samples
  fit_after (suc a) samples = solve_axis a (fit_after a samples)

  -- after all axes: the coefficients
  abbrev pub fit : List A → List A
  fit samples = fit_after (length dims) samples

module _ {A : Type 0} (o : A) (upper solve : ℕ → (ℕ → A) → ℕ → A) (dims : List ℕ) where
  -- what solving axis a of xs leaves in scratch: what its last line does
  abbrev pub axis_scratch : ℕ → List A → List A → List A
  axis_scratch a xs scratch = line_leaves o (upper a) (solve a) (points dims a) (stride dims a) (longest dims) (lines dims a - 1) xs scratch

  -- scratch after a axes: that of each axis in turn
  unfoldable pub scratch_after_axes : ℕ → List A → List A → List A
  scratch_after_axes zero samples scratch = scratch
  scratch_after_axes (suc a) samples scratch = axis_scratch a (fit_after o solve dims a samples) (scratch_after_axes a samples scratch)

-- ---- a call that fits something, a line or a map

-- coefficients and scratch after it, by the number that its checks give: `fitted` in the coefficients and `left` in scratch where
-- they pass; a refusal changes nothing
pub record FitLeaves {A : Type 0} (number : ℕ) (fitted left coefs scratch coefs' scratch' : List A) : Type 0 where
  pub coefficients : coefs' ≡ cond (eqb number 0) fitted coefs
  pub scratch_after : scratch' ≡ cond (eqb number 0) left scratch

-- and its answer is that number
pub record Fitted {A : Type 0} (expected : ℕ) (fitted left coefs scratch : List A) (answer : ℕ) (coefs' scratch' : List A) : Type 0 where
  pub answers : answer ≡ expected
  pub leaves : FitLeaves expected fitted left coefs scratch coefs' scratch'
