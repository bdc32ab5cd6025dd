-- One axis of a map as a coordinate on it sees it, on either grid: ByAxis has a map's axes together. Assumes nothing.
--     x    a coordinate
use Rattle.std.specs.Prelude.{◌≡◌, false, Bool, List, ℕ, ◌+◌, ◌<◌, get_or, Float}
use Rattle.std.specs.Float.{nan}
use Rattle.evaluation.specs.ByAxis.{ByAxis}

-- how many points it has; whether x has no place on it; the first of the four coefficients along it that count; their weights, and
-- the slopes of these
pub record OneAxis : Type 0 where
  pub points : ℕ
  pub no_place : Float → Bool
  pub origin : Float → ℕ
  pub weights : Float → List Float
  pub slopes : Float → List Float

-- it is axis a of a map
pub record AxisOf (m : ByAxis) (a : ℕ) (axis : OneAxis) : Type 0 where
  pub points : axis.points ≡ get_or m.lens a 0
  pub no_place : (x : List Float) → m.no_place x a ≡ axis.no_place (get_or x a nan)
  pub origin : (x : List Float) → m.origin x a ≡ axis.origin (get_or x a nan)
  pub weights : (x : List Float) → m.weights x a ≡ axis.weights (get_or x a nan)
  pub slopes : (x : List Float) → m.slopes x a ≡ axis.slopes (get_or x a nan)

-- x has a place, with that origin, which leaves room for four points
pub record FoundAt (axis : OneAxis) (x : Float) (origin : ℕ) : Type 0 where
  pub placed : axis.no_place x ≡ false
  pub is : origin ≡ axis.origin x
  pub room : origin + 3 < axis.points
