use mathlib.Core.Path.{◌∙◌}
use Rattle.rectilinear_weights.specs.Records.{ghost_numbers}
use Rattle.rectilinear_weights.proofs.Slopes.{slopes-by-place}
use Rattle.rectilinear_weights.proofs.weights.interp_weight_derivatives.Goals as goal

pub returns : goal.returns
returns c =
    let a = c.args in
    c.by_place.ensures ∙ slopes-by-place a.grid.now (ghost_numbers a.low_ghost) (ghost_numbers a.high_ghost) a.linearize_extrapolation a.span a.x a.sat
