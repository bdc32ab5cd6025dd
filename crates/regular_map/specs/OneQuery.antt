-- A single query on a regular map, axis after axis (evaluation/specs/One_query.antt). What functions of the library promise each
-- other; a caller has no use for it. Assumes nothing.
use Rattle.std.specs.Prelude.{◌≡◌, true, Result, Ok, Err, List, ℕ, ◌≤◌, ◌<◌, length, take, Float}
use Rattle.std.specs.Float.{Format}
use Rattle.shape.specs.Shape.{size}
use Rattle.evaluation.specs.Axes.{query}
use Rattle.shape.specs.Refusal.{refusal_number}
use Rattle.shape.specs.declared.answers.Refusal.{Refusal}
use Rattle.evaluation.specs.Axis.{OneAxis, AxisOf, FoundAt}
use Rattle.evaluation.specs.ByAxis.{ByAxis}
use Rattle.evaluation.specs.OneQuery.{SoFar}
use Rattle.regular_blocks.specs.Eval.{regular_axes}
use Rattle.regular_blocks.specs.Records.{map_of}
use Rattle.regular_blocks.specs.declared.grid.Grid.{Grid}

-- the first a axes of an accepted map have been looked at, and there is one more
pub record LookedAt (f : Format) (g : Grid) (coefs xs : List Float) (a first : ℕ) (rows : List (List Float)) : Type 0 where
  pub sized : length coefs ≡ size (take g.count g.dims)
  pub coordinates : g.count ≤ length xs
  pub more : a < g.count
  pub so_far : SoFar (regular_axes f (map_of g)) (query g.count xs 1 0) a first rows

-- ---- one axis more: the first of the coefficients along it that count, and their weights; or that x has no place there

pub record PlacedOn (map : ByAxis) (a : ℕ) (x : Float) (origin : ℕ) (row : List Float) : Type 0 where
  pub axis : OneAxis
  pub is : AxisOf map a axis
  pub found : FoundAt axis x origin
  pub weighed : row ≡ axis.weights x

pub record NoneOn (map : ByAxis) (a : ℕ) (x : Float) : Type 0 where
  pub axis : OneAxis
  pub is : AxisOf map a axis
  pub none : axis.no_place x ≡ true

abbrev pub LookedOn : ByAxis → ℕ → Float → Result (ℕ × List Float) Refusal → Type 0
LookedOn map a x (Ok found) = PlacedOn map a x found.0 found.1
LookedOn map a x (Err refusal) = (refusal_number refusal ≡ 6) × NoneOn map a x
