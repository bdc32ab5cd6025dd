-- A record, a joined grid and coefficients that are accepted. Assumes nothing.
use Rattle.std.specs.Prelude.{◌≡◌, true, List, ℕ, length, take, Float}
use Rattle.shape.specs.Shape.{size}
use Rattle.shape.specs.Usable.{Usable}
use Rattle.knots.specs.Joined.{total, all_rise}

-- a record and a joined grid that are accepted: the shape, the grid's length, knots that rise on every axis
pub record Gridded (count : ℕ) (lens : List ℕ) (grid : List Float) : Type 0 where
  pub shape : Usable count lens
  pub joined : length grid ≡ total (take count lens)
  pub rising : all_rise grid (take count lens) count ≡ true

-- and as many coefficients as there are points
pub record Sound (count : ℕ) (lens : List ℕ) (grid : List Float) (coefs : ℕ) : Type 0 where
  pub gridded : Gridded count lens grid
  pub sized : coefs ≡ size (take count lens)
