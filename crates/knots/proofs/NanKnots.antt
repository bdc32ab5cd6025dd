-- A NaN knot does not pass the increase check: nothing is below it, and it is below nothing. Assumes nothing.
use mathlib.Core.Path.{◌≡◌, refl, sym, ap, ◌∙◌}
use mathlib.Core.Bool.{true, false, false≢true}
use mathlib.Core.List.{[]}
use Prim.Native.Nat.{ℕ, zero, suc, ◌<◌}
use native.Mathlib.Omega.{arith}
use lib.ListN.{length, get_or}
use lib.Ieee.{Float, nan, lt}
use Rattle.shape.proofs.Below.{is_false}
use Rattle.shape.proofs.Checks.{check-fails}
use Rattle.knots.specs.Knots.{rises}
use Rattle.knots.specs.NanKnots.{NanDoesNotRise, NanIsRefused}
use Rattle.knots.proofs.Increase.{in_order}
use Rattle.knots.proofs.Counts.{not-below-nan}
use Rattle.knots.proofs.Totals.{not-all-rise}

nan-below-none : (k : Float) → lt nan k ≡ false
unfolding lt
nan-below-none k = refl

pub nan-does-not-rise : NanDoesNotRise
nan-does-not-rise ks w = is_false (rises ks) (go w.at w.within w.is-nan)
  where
    go : (i : ℕ) → i < length ks → get_or ks i nan ≡ nan → rises ks ≡ true → ⊥
    go zero h e up =
        false≢true (sym (nan-below-none (get_or ks 1 nan)) ∙ ap (λ (x : Float). lt x (get_or ks 1 nan)) (sym e) ∙ in_order ks up 0 1 (omega arith) w.two)
    go (suc i) h e up =
        false≢true (sym (not-below-nan (get_or ks 0 nan)) ∙ ap (lt (get_or ks 0 nan)) (sym e) ∙ in_order ks up 0 (suc i) (omega arith) h)

pub nan-is-refused : NanIsRefused
nan-is-refused grid dims a h w =
    let none = not-all-rise grid dims (length dims) a h (nan-does-not-rise _ w) in
    record { not-all-rise = none; refused = sym (check-fails [] 5 _ (rw none)) }
