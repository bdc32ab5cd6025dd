-- The four weights of a query on a regular axis, and their slopes, each operation rounded to the format f, in the Rust's
-- order. Assumes nothing.
--     t         how far the query lies past the point after the origin, in steps
--     straight  whether the straight line from the end is taken
use Rattle.std.specs.Prelude.{Bool, cond, List, [], ◌∷◌, slice_index_or, Float}
use Rattle.std.specs.Float.{nan, Format}
use Rattle.std.specs.Float.Ieee.{add, sub, mul, div, neg}
use Rattle.interp_math.specs.Sum.{mul_add}
use Rattle.multibspline.specs.Numbers.{f0, f1, f2, f3, f4, f6}
use Rattle.multibspline.specs.Place.{by_place}
use Rattle.multibspline.specs.declared.saturation.Saturation.{Saturation}

-- ---- the cardinal cubic B-spline on its four spans: (1 - 3t + 3t² - t³) / 6, (4 - 6t² + 3t³) / 6,
-- (1 + 3t + 3t² - 3t³) / 6, t³ / 6

unfoldable pub cubic_bspline_weights : Format → Float → List Float
cubic_bspline_weights f t =
    let t² = mul f t t in
    let t³ = mul f t² t in
    div f (sub f (add f (sub f f1 (mul f f3 t)) (mul f f3 t²)) t³) f6
    ∷ div f (add f (sub f f4 (mul f f6 t²)) (mul f f3 t³)) f6
    ∷ div f (sub f (add f (add f f1 (mul f f3 t)) (mul f f3 t²)) (mul f f3 t³)) f6
    ∷ div f t³ f6
    ∷ []

-- (-3 + 6t - 3t²) / 6, (-6 × 2 × t + 3 × 3 × t²) / 6, (3 + 6t - 3 × 3 × t²) / 6, 3t² / 6
unfoldable pub cubic_bspline_weight_derivatives : Format → Float → List Float
cubic_bspline_weight_derivatives f t =
    let t² = mul f t t in
    div f (sub f (add f (neg f3) (mul f f6 t)) (mul f f3 t²)) f6
    ∷ div f (add f (mul f (mul f (neg f6) f2) t) (mul f (mul f f3 f3) t²)) f6
    ∷ div f (sub f (add f f3 (mul f f6 t)) (mul f (mul f f3 f3) t²)) f6
    ∷ div f (mul f f3 t²) f6
    ∷ []

-- ---- the straight line from an end: the weights at the end (1/6, 4/6, 1/6) and, times the distance, their slopes (-1/2, 0, 1/2)

unfoldable pub low_linearized_boundary_weights : Format → Float → List Float
low_linearized_boundary_weights f t = sub f (div f f1 f6) (div f t f2) ∷ div f f4 f6 ∷ add f (div f f1 f6) (div f t f2) ∷ f0 ∷ []

unfoldable pub high_linearized_boundary_weights : Format → Float → List Float
high_linearized_boundary_weights f t =
    let u = sub f t f1 in
    f0 ∷ sub f (div f f1 f6) (div f u f2) ∷ div f f4 f6 ∷ add f (div f f1 f6) (div f u f2) ∷ []

unfoldable pub low_linearized_boundary_weight_derivatives : Format → List Float
low_linearized_boundary_weight_derivatives f = div f (neg f1) f2 ∷ f0 ∷ div f f1 f2 ∷ f0 ∷ []

unfoldable pub high_linearized_boundary_weight_derivatives : Format → List Float
high_linearized_boundary_weight_derivatives f = f0 ∷ div f (neg f1) f2 ∷ f0 ∷ div f f1 f2 ∷ []

-- ---- the ghost coefficient past an end, which is 3c0 - 3c1 + c2 on the low side and c1 - 3c2 + 3c3 on the high side, folded
-- into the stored ones

unfoldable pub fold_low : Format → List Float → List Float
fold_low f raw =
    mul_add f f3 (slice_index_or raw 0 nan) (slice_index_or raw 1 nan)
    ∷ mul_add f (neg f3) (slice_index_or raw 0 nan) (slice_index_or raw 2 nan)
    ∷ add f (slice_index_or raw 0 nan) (slice_index_or raw 3 nan)
    ∷ f0
    ∷ []

unfoldable pub fold_high : Format → List Float → List Float
fold_high f raw =
    f0
    ∷ add f (slice_index_or raw 0 nan) (slice_index_or raw 3 nan)
    ∷ mul_add f (neg f3) (slice_index_or raw 3 nan) (slice_index_or raw 1 nan)
    ∷ mul_add f f3 (slice_index_or raw 3 nan) (slice_index_or raw 2 nan)
    ∷ []

abbrev pub low_boundary_weights : Format → Bool → Float → List Float
low_boundary_weights f straight t = fold_low f (cond straight (low_linearized_boundary_weights f t) (cubic_bspline_weights f t))

abbrev pub high_boundary_weights : Format → Bool → Float → List Float
high_boundary_weights f straight t = fold_high f (cond straight (high_linearized_boundary_weights f t) (cubic_bspline_weights f t))

abbrev pub low_boundary_weight_derivatives : Format → Bool → Float → List Float
low_boundary_weight_derivatives f straight t = fold_low f (cond straight (low_linearized_boundary_weight_derivatives f) (cubic_bspline_weight_derivatives f t))

abbrev pub high_boundary_weight_derivatives : Format → Bool → Float → List Float
high_boundary_weight_derivatives f straight t = fold_high f (cond straight (high_linearized_boundary_weight_derivatives f) (cubic_bspline_weight_derivatives f t))

-- ---- by the place of the query and the axis's flag

unfoldable pub interp_weights : Format → Bool → Saturation → Float → List Float
interp_weights f linear sat t =
    by_place linear (cubic_bspline_weights f t) (λ straight. low_boundary_weights f straight (add f t f1)) (λ straight. high_boundary_weights f straight (sub f t f1)) sat

unfoldable pub span_derivatives : Format → Bool → Saturation → Float → List Float
span_derivatives f linear sat t =
    by_place linear (cubic_bspline_weight_derivatives f t) (λ straight. low_boundary_weight_derivatives f straight (add f t f1))
    (λ straight. high_boundary_weight_derivatives f straight (sub f t f1)) sat

-- each times 1 / step
unfoldable pub scaled : Format → Float → List Float → List Float
scaled f by [] = []
scaled f by (w ∷ ws) = mul f w by ∷ scaled f by ws

unfoldable pub interp_weight_derivatives : Format → Bool → Saturation → Float → Float → List Float
interp_weight_derivatives f linear sat step t = scaled f (div f f1 step) (span_derivatives f linear sat t)
