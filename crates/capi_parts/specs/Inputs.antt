-- What C hands over, in the library's words. Assumes nothing.
--     dims     the lengths of the axes, as many as there are axes
use Rattle.std.specs.Prelude.{◌≡◌, Bool, cond, not, List, [], ◌∷◌, ℕ, ◌+◌, ◌≤◌, eqb, ltb, length, take, get_or, Float}
use Rattle.multibspline.specs.Numbers.{f0}
use Rattle.shape.specs.declared.Shape.{Shape}

-- four lengths, 0 for axes that there are not. More than four, which every call refuses, are not looked at
unfoldable pub lens_of : List ℕ → List ℕ
lens_of dims = cond (ltb 4 (length dims)) (0 ∷ 0 ∷ 0 ∷ 0 ∷ []) (get_or dims 0 0 ∷ get_or dims 1 0 ∷ get_or dims 2 0 ∷ get_or dims 3 0 ∷ [])

abbrev pub shape_of : List ℕ → Shape
shape_of dims = record { count = length dims; dims = lens_of dims }

-- so that the axes of such a shape are `dims`
abbrev pub AxesAre : Type 0
AxesAre = (dims : List ℕ) → length dims ≤ 4 → take (length dims) (lens_of dims) ≡ dims

-- four numbers of a grid, from number k on
unfoldable pub four_from : ℕ → List Float → List Float
four_from k grid = get_or grid k f0 ∷ get_or grid (k + 1) f0 ∷ get_or grid (k + 2) f0 ∷ get_or grid (k + 3) f0 ∷ []

-- the flag `linear`: 0 is off
abbrev pub is_on : ℕ → Bool
is_on linear = not (eqb linear 0)
