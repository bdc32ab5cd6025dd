-- The weights of an axis and their slopes are four. Assumes nothing.
use Rattle.std.proofs.Common.{◌≡◌, Bool, List, [], ◌∷◌, length, get_or, refl, ap}
use lib.Ieee.{Float, nan, Format, mul}
use Rattle.interp_math.proofs.Four.{four}
use Rattle.multibspline.specs.declared.saturation.Saturation.{Saturation}
use Rattle.multibspline.specs.declared.saturation.Saturation.TheVariants.{None, InsideLow, OutsideLow, InsideHigh, OutsideHigh}
use Rattle.regular_weights.specs.Weights.{cubic_bspline_weights, cubic_bspline_weight_derivatives, fold_low, fold_high, interp_weights, span_derivatives, scaled, interp_weight_derivatives}

pub length-weights : (f : Format) (linear : Bool) (sat : Saturation) (t : Float) → length (interp_weights f linear sat t) ≡ 4
unfolding interp_weights cubic_bspline_weights fold_low fold_high
length-weights f linear None t = refl
length-weights f linear InsideLow t = refl
length-weights f linear OutsideLow t = refl
length-weights f linear InsideHigh t = refl
length-weights f linear OutsideHigh t = refl

length-span : (f : Format) (linear : Bool) (sat : Saturation) (t : Float) → length (span_derivatives f linear sat t) ≡ 4
unfolding span_derivatives cubic_bspline_weight_derivatives fold_low fold_high
length-span f linear None t = refl
length-span f linear InsideLow t = refl
length-span f linear OutsideLow t = refl
length-span f linear InsideHigh t = refl
length-span f linear OutsideHigh t = refl

pub scaled-four : (f : Format) (by : Float) (ws : List Float) → length ws ≡ 4
    → scaled f by ws ≡ mul f (get_or ws 0 nan) by ∷ mul f (get_or ws 1 nan) by ∷ mul f (get_or ws 2 nan) by ∷ mul f (get_or ws 3 nan) by ∷ []
unfolding scaled
scaled-four f by ws h = ap (scaled f by) (four nan ws h)

pub length-derivatives : (f : Format) (linear : Bool) (sat : Saturation) (step t : Float) → length (interp_weight_derivatives f linear sat step t) ≡ 4
unfolding interp_weight_derivatives
length-derivatives f linear sat step t = ap length (scaled-four f _ _ (length-span f linear sat t))
