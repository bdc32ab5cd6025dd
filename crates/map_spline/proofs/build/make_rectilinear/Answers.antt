use mathlib.Core.Path.{refl}
use Rattle.shape.proofs.Exit.{err-is}
use Rattle.map_spline.proofs.Making.{rectilinear-made, rectilinear-not, lent-room}
use Rattle.map_spline.proofs.build.make_rectilinear.Goals as goal

pub returns-in_err-map : goal.returns-in_err-map
returns-in_err-map c =
    let built = c.from_values_with_workspace.ensures in
    rw (err-is {e = c.in_err-map.field-0.0} c.from_residual.result c.from_residual.ensures.1) (rectilinear-not _ _ _ _ _ _ _ _ (lent-room c.workspace-scratch.ensures c.requires) refl _ _ _ _ _ built.built_by_fit built.rectilinear_fitted _ c.in_err-map.was)

pub returns : goal.returns
returns c =
    let built = c.from_values_with_workspace.ensures in
    rectilinear-made _ _ _ _ _ _ _ _ (lent-room c.workspace-scratch.ensures c.requires) refl _ _ _ _ _ built.built_by_fit built.rectilinear_fitted _ c.in_ok-map.was
