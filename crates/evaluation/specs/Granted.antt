-- What the functions that evaluate a query take for granted once the checks have passed. Inner: what functions of the library
-- promise each other; a caller has no use for it. Assumes nothing.
use Rattle.std.specs.Prelude.{◌≡◌, List, [], ℕ, ◌+◌, ◌*◌, ◌≤◌, ◌<◌, length, get_or, take, drop, Float}
use Rattle.shape.specs.Below.{sum_below}
use Rattle.shape.specs.Shape.{product, size, stride}
use Rattle.shape.specs.Usable.{Usable}
use Rattle.evaluation.specs.Axes.{strides}

-- a table of four rows that holds these rows for the axes in use
pub record RowsOn (count : ℕ) (row : ℕ → List Float) (table : List (List Float)) : Type 0 where
  pub four : length table ≡ 4
  pub at : (a : ℕ) → a < count → get_or table a [] ≡ row a

-- what the functions that evaluate a query take for granted: an accepted shape, and its strides
pub record Ready (count : ℕ) (lens ss : List ℕ) : Type 0 where
  pub shape : Usable count lens
  pub four : length lens ≡ 4
  pub strides-are : ss ≡ strides count lens

-- the coefficients from `first` on that count lie within `coefs`: up to three strides further on each axis
pub record Reaches (count : ℕ) (lens : List ℕ) (first coefs : ℕ) : Type 0 where
  pub within : first + 3 * sum_below (stride (take count lens)) count < coefs

-- so far, over the first a axes: i, the sum of origin times stride over these, with three of each stride and all cells from axis a
-- on, is within the map
abbrev pub Below : ℕ → List ℕ → ℕ → ℕ → Type 0
Below count lens a i = i + 3 * sum_below (stride (take count lens)) a + product (drop a (take count lens)) ≤ size (take count lens)
