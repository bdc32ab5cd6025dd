-- The slopes at a place, with the choice of the straight line made outside the slopes of the span. Assumes nothing.
use Rattle.std.proofs.Common.{◌≡◌, Bool, true, false, cond, List, ℕ, ◌-◌, length, refl}
use lib.Ieee.{Float, binary64}
use Rattle.multibspline.specs.Thomas.{at}
use Rattle.multibspline.specs.Place.{by_place}
use Rattle.multibspline.specs.declared.saturation.Saturation.{Saturation}
use Rattle.multibspline.specs.declared.saturation.Saturation.TheVariants.{None, InsideLow, OutsideLow, InsideHigh, OutsideHigh}
use Rattle.rectilinear_slopes.specs.Slopes.{basis_span_weight_derivatives}
use Rattle.rectilinear_weights.specs.Weights.{fold_low, fold_high, interp_weight_derivatives}

module _ (ks low high : List Float) (linear : Bool) (span : ℕ) (x : Float) where
  abbrev slopes : ℕ → Float → List Float
  slopes = basis_span_weight_derivatives binary64 ks

  pub slopes-by-place : (sat : Saturation)
      → by_place linear (slopes span x)
      (λ straight. fold_low binary64 low (cond straight (slopes 0 (at ks 0)) (slopes 0 x)))
      (λ straight. fold_high binary64 high (cond straight (slopes (length ks - 2) (at ks (length ks - 1))) (slopes (length ks - 2) x)))
      sat
      ≡ interp_weight_derivatives binary64 ks low high linear span x sat
  unfolding interp_weight_derivatives
  slopes-by-place None = refl
  slopes-by-place InsideLow = refl
  slopes-by-place InsideHigh = refl
  slopes-by-place OutsideLow = low-slopes linear where
    low-slopes : (s : Bool) → fold_low binary64 low (cond s (slopes 0 (at ks 0)) (slopes 0 x)) ≡ fold_low binary64 low (slopes 0 (cond s (at ks 0) x))
    low-slopes true = refl
    low-slopes false = refl
  slopes-by-place OutsideHigh = high-slopes linear where
    high-slopes : (s : Bool)
        → fold_high binary64 high (cond s (slopes (length ks - 2) (at ks (length ks - 1))) (slopes (length ks - 2) x))
        ≡ fold_high binary64 high (slopes (length ks - 2) (cond s (at ks (length ks - 1)) x))
    high-slopes true = refl
    high-slopes false = refl
