-- A map as a query sees it, axis by axis, on either grid; its value and gradient follow from that, each operation rounded to the
-- format f. Assumes nothing.
--     x    a query, one coordinate an axis
use Rattle.std.specs.Prelude.{Bool, List, ℕ, take, Float}
use Rattle.std.specs.Float.{Format}
use Rattle.shape.specs.Below.{any_below}
use Rattle.shape.specs.Checks.{Check}
use Rattle.evaluation.specs.Axes.{rows, first_over, value_from, gradient_from}
use Rattle.evaluation.specs.Spline.{Spline}

-- on axis a: whether x has no place there; the first of the four coefficients along the axis that count; their weights, and the
-- slopes of these
pub record ByAxis : Type 0 where
  pub count : ℕ
  pub lens : List ℕ
  pub no_place : List Float → ℕ → Bool
  pub origin : List Float → ℕ → ℕ
  pub weights : List Float → ℕ → List Float
  pub slopes : List Float → ℕ → List Float

-- does some axis refuse the query?
unfoldable pub refuses : ByAxis → List Float → Bool
refuses m x = any_below (m.no_place x) m.count

-- the first of the coefficients that count, over the first a axes
abbrev pub first_at : ByAxis → List Float → ℕ → ℕ
first_at m x a = first_over (take m.count m.lens) (m.origin x) a

-- the value at the query, and part k of the gradient
unfoldable pub value_at : Format → ByAxis → List Float → List Float → Float
value_at f m coefs x = value_from f m.count m.lens coefs (rows m.count (m.weights x)) (first_at m x m.count)

unfoldable pub part_at : Format → ByAxis → List Float → List Float → ℕ → Float
part_at f m coefs x k = gradient_from f m.count m.lens coefs (rows m.count (m.weights x)) (rows m.count (m.slopes x)) (first_at m x m.count) k

-- with its checks and its coefficients: the map as the calls that evaluate it see it
abbrev pub spline_of : Format → ByAxis → List Check → List Float → Spline
spline_of f m checks coefs = record {
  axes = m.count;
  checks = checks;
  refuses = refuses m;
  value = value_at f m coefs;
  part = part_at f m coefs;
}
