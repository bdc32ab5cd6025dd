-- A rectilinear map as C hands it over: `dims`, and the knots of each axis, axis after axis. Assumes nothing.
use Rattle.std.specs.Prelude.{Bool, List, ℕ, length, Float}
use Rattle.std.specs.Float.{Format}
use Rattle.evaluation.specs.Spline.{Spline}
use Rattle.rectilinear_blocks.specs.Map.{RectilinearMap}
use Rattle.rectilinear_map.specs.Map.{low_ghosts, high_ghosts}
use Rattle.rectilinear_blocks.specs.Eval.{rectilinear}
use Rattle.capi_parts.specs.Inputs.{lens_of}

-- with the ghost numbers that its knots give
abbrev pub rectilinear_map : Format → List ℕ → List Float → Bool → RectilinearMap
rectilinear_map f dims grid linear = record {
  count = length dims;
  lens = lens_of dims;
  low = low_ghosts f (length dims) (lens_of dims) grid;
  high = high_ghosts f (length dims) (lens_of dims) grid;
  linear = linear;
}

abbrev pub rectilinear_spline : Format → List ℕ → List Float → Bool → List Float → Spline
rectilinear_spline f dims grid linear coefs = rectilinear f (rectilinear_map f dims grid linear) grid coefs
