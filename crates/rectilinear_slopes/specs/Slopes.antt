-- The slopes of the four weights on a span, and their third derivatives: each weight is a cubic polynomial there, given by its
-- values at four places. Each operation is rounded to the format f, in the Rust's order. Assumes nothing.
--     xs, ys    four places, and the values there
use Rattle.std.specs.Prelude.{cond, ◌||◌, List, [], ◌∷◌, ℕ, zero, suc, ◌+◌, eqb, get_or, Float}
use Rattle.std.specs.Float.{Format}
use Rattle.std.specs.Float.Ieee.{add, sub, mul, div}
use Rattle.multibspline.specs.Numbers.{f0, f1, f3, f6}
use Rattle.multibspline.specs.Thomas.{at}
use Rattle.rectilinear_basis.specs.Basis.{four, basis_span_weights}

-- four places on a span: its first knot a, and a third, two thirds and the whole of the spacing h further
unfoldable pub span_samples : Format → List Float → ℕ → List Float
span_samples f ks span =
    let a = at ks span in
    let h = sub f (at ks (span + 1)) a in
    a ∷ add f a (div f h f3) ∷ add f a (div f (add f h h) f3) ∷ add f a h ∷ []

-- the four weights at each of these places, and the values of weight j there
unfoldable pub sampled : Format → List Float → ℕ → List (List Float)
sampled f ks span =
    let xs = span_samples f ks span in
    basis_span_weights f ks span (at xs 0)
    ∷ basis_span_weights f ks span (at xs 1)
    ∷ basis_span_weights f ks span (at xs 2)
    ∷ basis_span_weights f ks span (at xs 3)
    ∷ []

unfoldable pub column : List (List Float) → ℕ → List Float
column rows j = at (get_or rows 0 []) j ∷ at (get_or rows 1 []) j ∷ at (get_or rows 2 []) j ∷ at (get_or rows 3 []) j ∷ []

-- ---- the derivative, at x, of the cubic through four points: Lagrange's formula

module _ (f : Format) (xs : List Float) (x : Float) where
  -- 1 / (x(j) - x(m)), times (x - x(k)) / (x(j) - x(k)) for each further k below n
  abbrev pub term : ℕ → ℕ → ℕ → Float
  term j m zero = div f f1 (sub f (at xs j) (at xs m))
  term j m (suc k) = cond (eqb k j || eqb k m) (term j m k) (div f (mul f (term j m k) (sub f x (at xs k))) (sub f (at xs j) (at xs k)))

  -- the derivative of the polynomial that is 1 at x(j) and 0 at the other places: the sum of the terms of m below n
  abbrev pub basis_derivative : ℕ → ℕ → Float
  basis_derivative j zero = f0
  basis_derivative j (suc m) = cond (eqb m j) (basis_derivative j m) (add f (basis_derivative j m) (term j m 4))

  -- the sum of the values times these, of j below n
  abbrev pub derivative : List Float → ℕ → Float
  derivative ys zero = f0
  derivative ys (suc j) = add f (derivative ys j) (mul f (at ys j) (basis_derivative j 4))

unfoldable pub lagrange_derivative : Format → List Float → List Float → Float → Float
lagrange_derivative f xs ys x = derivative f xs x ys 4

unfoldable pub basis_span_weight_derivatives : Format → List Float → ℕ → Float → List Float
basis_span_weight_derivatives f ks span x = four (λ j. lagrange_derivative f (span_samples f ks span) (column (sampled f ks span) j) x)

-- ---- third derivatives: six times the third divided difference

-- a divided difference: (b - a) / (x(k) - x(i))
abbrev pub divided_difference : Format → List Float → ℕ → ℕ → Float → Float → Float
divided_difference f xs i k a b = div f (sub f b a) (sub f (at xs k) (at xs i))

unfoldable pub third_divided_difference : Format → List Float → List Float → Float
third_divided_difference f xs ys =
    let d01 = divided_difference f xs 0 1 (at ys 0) (at ys 1) in
    let d12 = divided_difference f xs 1 2 (at ys 1) (at ys 2) in
    let d23 = divided_difference f xs 2 3 (at ys 2) (at ys 3) in
    let d012 = divided_difference f xs 0 2 d01 d12 in
    let d123 = divided_difference f xs 1 3 d12 d23 in
    divided_difference f xs 0 3 d012 d123

unfoldable pub span_weight_third_derivatives : Format → List Float → ℕ → List Float
span_weight_third_derivatives f ks span = four (λ j. mul f f6 (third_divided_difference f (span_samples f ks span) (column (sampled f ks span) j)))
