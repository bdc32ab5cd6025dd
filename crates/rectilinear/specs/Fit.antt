-- What `coefficients` answers and leaves, for a rectilinear map of the axes `take count lens` on a joined grid. Assumes nothing.
use Rattle.std.specs.Prelude.{List, [], ◌∷◌, ℕ, length, take, Float}
use Rattle.std.specs.Float.{Format, nan}
use Rattle.shape.specs.Fit as Axes
use Rattle.shape.specs.Fit.{Fitted}
use Rattle.shape.specs.Checks.{Check, first_refusal, fitting_checks}
use Rattle.knots.specs.Joined.{knots_of}
use Rattle.knots.specs.Checks.{grid_check, knots_check}
use Rattle.rectilinear_weights.specs.Ghosts.{low_ghost_coeffs, high_ghost_coeffs}
use Rattle.lines.specs.Rows.{Rows}
use Rattle.rectilinear_lines.specs.Rows.{system, coefficient, upper_number}

-- the system of axis a
abbrev pub axis_system : Format → List Float → List ℕ → ℕ → Rows
axis_system f grid dims a = let ks = knots_of grid dims a in system f ks (low_ghost_coeffs f ks) (high_ghost_coeffs f ks)

-- a line of axis a, solved: from its samples y, coefficient i, and upper number i of its elimination
abbrev pub solve : Format → List Float → List ℕ → ℕ → (ℕ → Float) → ℕ → Float
solve f grid dims a = let ks = knots_of grid dims a in coefficient f ks (low_ghost_coeffs f ks) (high_ghost_coeffs f ks)

abbrev pub upper : Format → List Float → List ℕ → ℕ → (ℕ → Float) → ℕ → Float
upper f grid dims a = let ks = knots_of grid dims a in upper_number f ks (low_ghost_coeffs f ks) (high_ghost_coeffs f ks)

-- the coefficients of a rectilinear map, and what the fit leaves in scratch
abbrev pub rectilinear_fit : Format → List Float → List ℕ → List Float → List Float
rectilinear_fit f grid dims samples = Axes.fit nan (solve f grid dims) dims samples

abbrev pub rectilinear_scratch : Format → List Float → List ℕ → List Float → List Float → List Float
rectilinear_scratch f grid dims samples scratch =
    Axes.scratch_after_axes nan (upper f grid dims) (solve f grid dims) dims (length dims) samples scratch

-- the checks of the fit, by the lengths of its buffers
unfoldable pub rectilinear_fit_checks : ℕ → List ℕ → List Float → ℕ → ℕ → ℕ → List Check
rectilinear_fit_checks count lens grid samples coefs scratch =
    fitting_checks count lens (grid_check (take count lens) grid) (knots_check (take count lens) grid) coefs [] (samples ∷ []) scratch []

-- an accepted fit leaves the coefficients; a refusal changes nothing
abbrev pub RectilinearFitted : Format → ℕ → List ℕ → List Float → List Float → List Float → List Float → ℕ → List Float → List Float → Type 0
RectilinearFitted f count lens grid samples coefs scratch answer coefs' scratch' =
    Fitted (first_refusal (rectilinear_fit_checks count lens grid (length samples) (length coefs) (length scratch)))
    (rectilinear_fit f grid (take count lens) samples)
    (rectilinear_scratch f grid (take count lens) samples scratch)
    coefs scratch answer coefs' scratch'
