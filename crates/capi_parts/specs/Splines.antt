-- A gradient that is written into a buffer of its own length, on either grid. Assumes nothing.
use Rattle.std.specs.Prelude.{◌++◌, ℕ}
use Rattle.shape.specs.Checks.{length_check}
use Rattle.evaluation.specs.Spline.{Spline}

-- the map, with a check that the buffer holds as many slopes as there are axes. It has the same number as the check of the
-- query's length that follows it
abbrev pub with_slopes : ℕ → Spline → Spline
with_slopes slopes s = record {
  axes = s.axes;
  checks = s.checks ++ length_check s.axes slopes;
  refuses = s.refuses;
  value = s.value;
  part = s.part;
}
