-- What the calls on a regular map answer. Assumes nothing.
--     coefs    the length of the coefficients
use Rattle.std.specs.Prelude.{Bool, false, not, ◌||◌, List, [], ◌∷◌, ◌++◌, ℕ, length, take, Float}
use Rattle.std.specs.Float.{Format}
use Rattle.std.specs.Float.Ieee.{lt}
use Rattle.shape.specs.Shape.{size}
use Rattle.shape.specs.Checks.{Check, refuse, first_refusal, shape_checks, length_check, regular_fit_checks}
use Rattle.multibspline.specs.Numbers.{f0}
use Rattle.evaluation.specs.Spline.{Spline}
use Rattle.evaluation.specs.ByAxis.{spline_of}
use Rattle.regular_blocks.specs.Map.{RegularMap}
use Rattle.regular_blocks.specs.Eval.{regular_axes}

-- a step is not above zero; a NaN is not
unfoldable pub any_step_bad : List Float → Bool
any_step_bad [] = false
any_step_bad (s ∷ ss) = not (lt f0 s) || any_step_bad ss

-- building, and every evaluation: the record, the coefficients, the steps of the axes in use
abbrev pub map_checks : ℕ → List ℕ → List Float → ℕ → List Check
map_checks count lens steps coefs =
    shape_checks count lens ++ (length_check (size (take count lens)) coefs ++ refuse 5 (any_step_bad (take count steps)) ∷ [])

unfoldable pub map_answer : ℕ → List ℕ → List Float → ℕ → ℕ
map_answer count lens steps coefs = first_refusal (map_checks count lens steps coefs)

-- building from samples fits first; then the steps are tested
unfoldable pub from_values_answer : ℕ → List ℕ → List Float → ℕ → ℕ → ℕ → ℕ
from_values_answer count lens steps samples coefs scratch =
    first_refusal (regular_fit_checks count lens samples coefs scratch ++ refuse 5 (any_step_bad (take count steps)) ∷ [])

-- the map with its coefficients, as the calls that evaluate it see it
abbrev pub regular : Format → RegularMap → List Float → Spline
regular f m coefs = spline_of f (regular_axes f m) (map_checks m.count m.lens m.steps (length coefs)) coefs
