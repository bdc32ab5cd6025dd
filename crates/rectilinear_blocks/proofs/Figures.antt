-- Every query has a place on every axis of a rectilinear map. For every format. Assumes nothing.
use mathlib.Core.Path.{◌≡◌, refl}
use mathlib.Core.Bool.{false}
use mathlib.Core.List.{List}
use lib.Ieee.{Float, Format}
use Rattle.evaluation.specs.ByAxis.{refuses}
use Rattle.evaluation.proofs.ByAxis.{never-refuses}
use Rattle.rectilinear_blocks.specs.Map.{RectilinearMap}
use Rattle.rectilinear_blocks.specs.Eval.{rectilinear_axes}

pub answers-all : (f : Format) (map : RectilinearMap) (grid x : List Float) → refuses (rectilinear_axes f map grid) x ≡ false
answers-all f map grid x = never-refuses (rectilinear_axes f map grid) x (λ a h. refl)
