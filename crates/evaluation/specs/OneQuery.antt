-- A single query on a map, axis after axis, on either grid. What functions of the library promise each other; a caller has no use
-- for it. Assumes nothing.
use Rattle.std.specs.Prelude.{◌≡◌, List, [], ℕ, ◌<◌, length, get_or, Float}
use Rattle.evaluation.specs.ByAxis.{ByAxis}
use Rattle.evaluation.specs.Stages.{PlacedTo}

-- the first a axes have been looked at: query x has a place on each, `first` is the first of the coefficients that count so far,
-- and `rows` are the weights of these axes
pub record SoFar (map : ByAxis) (x : List Float) (a first : ℕ) (rows : List (List Float)) : Type 0 where
  pub placed : PlacedTo map x a first
  pub each : length rows ≡ a
  pub weighed : (b : ℕ) → b < a → get_or rows b [] ≡ map.weights x b
