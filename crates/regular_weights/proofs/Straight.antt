-- The straight lines of a regular axis go through the cubic's value and slope at their end: the ends by computing, on both
-- widths; the distance because half of it is the same number, divided by 2 or times 1/2. Assumes nothing.
use Rattle.std.proofs.Common.{◌≡◌, ℕ, zero, suc, ◌+◌, ◌*◌, ◌^◌, Bool, true, false, cond, not, ltb, [], ◌∷◌, negsuc, sym, refl, ◌∙◌, ap₂, arith}
use lib.Ieee.{Float, nan, inf, fin, Format, binary32, binary64, prec, emax, low, up, down, unlike, odd, units, round, add, sub, mul, div, neg, eq}
use Rattle.multibspline.specs.Numbers.{f0, f1, f2, f4, f6}
use Rattle.regular_weights.specs.Weights.{cubic_bspline_weights, cubic_bspline_weight_derivatives, low_linearized_boundary_weights, high_linearized_boundary_weights, low_linearized_boundary_weight_derivatives, high_linearized_boundary_weight_derivatives}
use Rattle.regular_weights.specs.Straight.{straight, StraightFromTheEnds}

-- ---- half a distance

half : Float
half = fin false 1 (negsuc 0)

neg-odd : (d : ℕ) (s : Bool) (q k l : ℕ) → neg (odd d s q k l) ≡ odd d (not s) q k l
unfolding neg odd
neg-odd d s zero k l = refl
neg-odd d s (suc q) k l = refl

neg-cond : (b s : Bool) (x y : Float) → neg x ≡ y → neg (cond b x (inf s)) ≡ cond b y (inf (not s))
unfolding neg
neg-cond true s x y e = e
neg-cond false s x y e = refl

neg-units : (f : Format) (s : Bool) (q k : ℕ) → neg (units f s q k) ≡ units f (not s) q k
unfolding units
neg-units f s q k = neg-cond (ltb (q * 2 ^ k) (2 ^ (low f + suc (emax f)))) s _ _ (neg-odd (suc (prec f)) s q k (low f))

neg-round : (f : Format) (s : Bool) (a b : ℕ) → neg (round f s a b) ≡ round f (not s) a b
unfolding round
neg-round f s a b = neg-units f s _ _

half-fraction : (f : Format) (s : Bool) (m x d : ℕ) → round f s (m * x * 1) (1 * 2 * d) ≡ round f s (m * x * (1 * 1)) (d * 2)
half-fraction f s m x d =
    let a : m * x * 1 ≡ m * x * (1 * 1) = omega arith in
    let b : 1 * 2 * d ≡ d * 2 = omega arith in
    rw (a, b)

halved : (f : Format) (t : Float) → div f t f2 ≡ mul f t half
unfolding div mul half
halved f nan = refl
halved f (inf s) = refl
halved f (fin s m e) = half-fraction f (unlike s false) m (up e) (down e)

neg-halved : (f : Format) (t : Float) → neg (div f t f2) ≡ mul f t (neg half)
unfolding div mul neg half
neg-halved f nan = refl
neg-halved f (inf true) = refl
neg-halved f (inf false) = refl
neg-halved f (fin true m e) = neg-round f true _ _ ∙ half-fraction f false m (up e) (down e)
neg-halved f (fin false m e) = neg-round f false _ _ ∙ half-fraction f true m (up e) (down e)

-- ---- at the ends, by computing

-- 1/6 and 4/6, rounded
sixth : Format → Float
sixth binary32 = fin false 11184811 (negsuc 25)
sixth binary64 = fin false 6004799503160661 (negsuc 54)

four-sixths : Format → Float
four-sixths binary32 = fin false 11184811 (negsuc 23)
four-sixths binary64 = fin false 6004799503160661 (negsuc 52)

sixth-is : (f : Format) → div f f1 f6 ≡ sixth f
unfolding div sixth
sixth-is binary32 = refl
sixth-is binary64 = refl

four-sixths-is : (f : Format) → div f f4 f6 ≡ four-sixths f
unfolding div four-sixths
four-sixths-is binary32 = refl
four-sixths-is binary64 = refl

low-weights : (f : Format) → cubic_bspline_weights f f0 ≡ sixth f ∷ four-sixths f ∷ sixth f ∷ f0 ∷ []
unfolding cubic_bspline_weights sixth four-sixths add sub mul div neg
low-weights binary32 = refl
low-weights binary64 = refl

low-slopes : (f : Format) → cubic_bspline_weight_derivatives f f0 ≡ neg half ∷ f0 ∷ half ∷ f0 ∷ []
unfolding cubic_bspline_weight_derivatives half add sub mul div neg
low-slopes binary32 = refl
low-slopes binary64 = refl

high-weights : (f : Format) → cubic_bspline_weights f f1 ≡ f0 ∷ sixth f ∷ four-sixths f ∷ sixth f ∷ []
unfolding cubic_bspline_weights sixth four-sixths add sub mul div neg
high-weights binary32 = refl
high-weights binary64 = refl

high-slopes : (f : Format) → cubic_bspline_weight_derivatives f f1 ≡ f0 ∷ neg half ∷ f0 ∷ half ∷ []
unfolding cubic_bspline_weight_derivatives half add sub mul div neg
high-slopes binary32 = refl
high-slopes binary64 = refl

low_end : (f : Format) → low_linearized_boundary_weights f f0 ≡ sixth f ∷ four-sixths f ∷ sixth f ∷ f0 ∷ []
unfolding low_linearized_boundary_weights sixth four-sixths add sub mul div neg
low_end binary32 = refl
low_end binary64 = refl

high_end : (f : Format) → high_linearized_boundary_weights f f1 ≡ f0 ∷ sixth f ∷ four-sixths f ∷ sixth f ∷ []
unfolding high_linearized_boundary_weights sixth four-sixths add sub mul div neg
high_end binary32 = refl
high_end binary64 = refl

low-end-slopes : (f : Format) → low_linearized_boundary_weight_derivatives f ≡ neg half ∷ f0 ∷ half ∷ f0 ∷ []
unfolding low_linearized_boundary_weight_derivatives half div neg
low-end-slopes binary32 = refl
low-end-slopes binary64 = refl

high-end-slopes : (f : Format) → high_linearized_boundary_weight_derivatives f ≡ f0 ∷ neg half ∷ f0 ∷ half ∷ []
unfolding high_linearized_boundary_weight_derivatives half div neg
high-end-slopes binary32 = refl
high-end-slopes binary64 = refl

-- ---- past the ends

low-line : (f : Format) (t : Float) → low_linearized_boundary_weights f t ≡ straight f t (cubic_bspline_weights f f0) (cubic_bspline_weight_derivatives f f0)
unfolding low_linearized_boundary_weights straight half sub neg eq
low-line f t =
    rw (low-weights f, low-slopes f, sixth-is f, four-sixths-is f)
    (ap₂ (λ (x y : Float). add f (sixth f) x ∷ four-sixths f ∷ add f (sixth f) y ∷ f0 ∷ []) (neg-halved f t) (halved f t))

high-line : (f : Format) (t : Float) → high_linearized_boundary_weights f t ≡ straight f (sub f t f1) (cubic_bspline_weights f f1) (cubic_bspline_weight_derivatives f f1)
unfolding high_linearized_boundary_weights straight half sub neg eq
high-line f t =
    rw (high-weights f, high-slopes f, sixth-is f, four-sixths-is f)
    (ap₂ (λ (x y : Float). f0 ∷ add f (sixth f) x ∷ four-sixths f ∷ add f (sixth f) y ∷ []) (neg-halved f (sub f t f1)) (halved f (sub f t f1)))

pub straight-from-the-ends : StraightFromTheEnds
straight-from-the-ends f = record {
  low_value = low_end f ∙ sym (low-weights f);
  low-slope = low-end-slopes f ∙ sym (low-slopes f);
  high_value = high_end f ∙ sym (high-weights f);
  high-slope = high-end-slopes f ∙ sym (high-slopes f);
  low-line = low-line f;
  high-line = high-line f;
}
