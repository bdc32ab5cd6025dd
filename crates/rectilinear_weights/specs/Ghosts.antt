-- Ghost coefficients: past either end of a line a further coefficient counts, which is not stored. The third derivative in
-- the end span is zero, which gives it as a sum of the three stored ones beside it; its three factors are the ghost numbers of
-- that end. Each operation is rounded to the format f. Assumes nothing.
use Rattle.std.specs.Prelude.{List, [], ◌∷◌, ◌-◌, length, Float}
use Rattle.std.specs.Float.{Format}
use Rattle.std.specs.Float.Ieee.{neg, div}
use Rattle.multibspline.specs.Thomas.{at}
use Rattle.rectilinear_slopes.specs.Slopes.{span_weight_third_derivatives}

-- with q the third derivatives of the four weights in the first span: c(-1) = -q1/q0 c(0) - q2/q0 c(1) - q3/q0 c(2)
unfoldable pub low_ghost_coeffs : Format → List Float → List Float
low_ghost_coeffs f ks =
    let q = span_weight_third_derivatives f ks 0 in
    div f (neg (at q 1)) (at q 0) ∷ div f (neg (at q 2)) (at q 0) ∷ div f (neg (at q 3)) (at q 0) ∷ []

-- in the last span: c(n) = -q0/q3 c(n-3) - q1/q3 c(n-2) - q2/q3 c(n-1)
unfoldable pub high_ghost_coeffs : Format → List Float → List Float
high_ghost_coeffs f ks =
    let q = span_weight_third_derivatives f ks (length ks - 2) in
    div f (neg (at q 0)) (at q 3) ∷ div f (neg (at q 1)) (at q 3) ∷ div f (neg (at q 2)) (at q 3) ∷ []
