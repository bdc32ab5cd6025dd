-- The weights and the slopes at a place that is at neither end are those of the span. Assumes nothing.
use mathlib.Core.Path.{◌≡◌}
use mathlib.Core.Bool.{Bool}
use mathlib.Core.List.{List}
use Prim.Native.Nat.{ℕ}
use lib.Ieee.{Float, Format}
use Rattle.multibspline.specs.declared.saturation.Saturation.{Saturation}
use Rattle.multibspline.specs.declared.saturation.Saturation.TheVariants.{None}
use Rattle.rectilinear_basis.specs.Basis.{basis_span_weights}
use Rattle.rectilinear_slopes.specs.Slopes.{basis_span_weight_derivatives}
use Rattle.rectilinear_weights.specs.Weights.{interp_weights, interp_weight_derivatives}

pub inner-interp : (f : Format) (ks low high : List Float) (linear : Bool) (span : ℕ) (x : Float) {sat : Saturation} → sat ≡ None → interp_weights f ks low high linear span x sat ≡ basis_span_weights f ks span x
unfolding interp_weights
inner-interp f ks low high linear span x e = rw e

pub inner-slopes : (f : Format) (ks low high : List Float) (linear : Bool) (span : ℕ) (x : Float) {sat : Saturation} → sat ≡ None → interp_weight_derivatives f ks low high linear span x sat ≡ basis_span_weight_derivatives f ks span x
unfolding interp_weight_derivatives
inner-slopes f ks low high linear span x e = rw e
