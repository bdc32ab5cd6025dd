-- Four entries, one an axis: the coordinates of a query, the rows of weights, the parts of a gradient. Entries for axes not in
-- use are zero. Assumes nothing.
use Rattle.std.specs.Prelude.{cond, List, [], ◌∷◌, ℕ, ◌+◌, ◌*◌, ltb, get_or, take, Float}
use Rattle.std.specs.Float.{nan, Format}
use Rattle.shape.specs.Below.{sum_below}
use Rattle.shape.specs.Shape.{stride}
use Rattle.multibspline.specs.Numbers.{f0}
use Rattle.interp_math.specs.Sum.{summed, gradient_part}

-- one entry an axis; `unused` for an axis not in use
abbrev pub per_axis : {A : Type 0} → A → ℕ → (ℕ → A) → List A
per_axis unused count entry =
    cond (ltb 0 count) (entry 0) unused
    ∷ cond (ltb 1 count) (entry 1) unused
    ∷ cond (ltb 2 count) (entry 2) unused
    ∷ cond (ltb 3 count) (entry 3) unused
    ∷ []

-- those of a list; o is the element read past its end (never, in what is proved)
unfoldable pub in_use : {A : Type 0} → A → A → ℕ → List A → List A
in_use o unused count xs = per_axis unused count (λ a. get_or xs a o)

abbrev pub zeros : List Float
zeros = f0 ∷ f0 ∷ f0 ∷ f0 ∷ []

-- query i of n, of coordinates that stand axis after axis
unfoldable pub query : ℕ → List Float → ℕ → ℕ → List Float
query count xs n i = per_axis f0 count (λ a. get_or xs (a * n + i) nan)

-- a row of four weights or slopes for each axis
abbrev pub rows : ℕ → (ℕ → List Float) → List (List Float)
rows count row = per_axis zeros count row

-- the parts of a gradient
abbrev pub parts : ℕ → (ℕ → Float) → List Float
parts count part = per_axis f0 count part

-- the strides of the axes
abbrev pub strides : ℕ → List ℕ → List ℕ
strides count lens = per_axis 0 count (stride (take count lens))

-- the first of the coefficients that count, over the first a axes: the sum of origin times stride
unfoldable pub first_over : List ℕ → (ℕ → ℕ) → ℕ → ℕ
first_over dims origin a = sum_below (λ b. origin b * stride dims b) a

-- from the first coefficient that counts, with a row of weights and one of slopes an axis: the value, and part k of the
-- gradient
abbrev pub value_from : Format → ℕ → List ℕ → List Float → List (List Float) → ℕ → Float
value_from f count lens coefs weights first = summed f coefs (strides count lens) weights count first

abbrev pub gradient_from : Format → ℕ → List ℕ → List Float → List (List Float) → List (List Float) → ℕ → ℕ → Float
gradient_from f count lens coefs weights slopes first k = gradient_part f coefs (strides count lens) weights slopes count first k
