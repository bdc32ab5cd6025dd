-- The four cubic basis functions that are not zero on a span: algorithm A2.2 of Piegl and Tiller, The NURBS Book, for degree
-- three. The span is held fixed, so that outside it they go on as the same polynomials. Each operation is rounded to the
-- format f. Assumes nothing.
use Rattle.std.specs.Prelude.{cond, List, [], ◌∷◌, ℕ, zero, suc, ◌+◌, ◌-◌, ltb, pos, Float}
use Rattle.std.proofs.Math.IntN.{sub_ℕ}
use Rattle.std.specs.Float.{Format}
use Rattle.std.specs.Float.Ieee.{add, sub, mul, div}
use Rattle.multibspline.specs.Numbers.{f0, f1}
use Rattle.rectilinear_basis.specs.Knot.{knot}

-- left(j) = x - u(i + 1 - j) and right(j) = u(i + j) - x on the span i, for j from 1 to 3; u are the knots
abbrev pub left_of : Format → List Float → ℕ → Float → ℕ → Float
left_of f ks i x j = sub f x (knot f ks (sub_ℕ (i + 1) j))

abbrev pub right_of : Format → List Float → ℕ → Float → ℕ → Float
right_of f ks i x j = sub f (knot f ks (pos (i + j))) x

-- One turn of the book's loop over j: from the functions n(r) of degree j - 1 to those of degree j. `saved r` is what the
-- variable `saved` holds as the inner loop comes to r.
module _ (f : Format) (left right : ℕ → Float) (n : ℕ → Float) (j : ℕ) where
  abbrev pub temp : ℕ → Float
  temp r = div f (n r) (add f (right (suc r)) (left (j - r)))

  abbrev pub saved : ℕ → Float
  saved zero = f0
  saved (suc r) = mul f (left (j - r)) (temp r)

  abbrev pub raised : ℕ → Float
  raised r = cond (ltb r j) (add f (saved r) (mul f (right (suc r)) (temp r))) (saved r)

-- n(r) of degree j
abbrev pub basis : Format → (ℕ → Float) → (ℕ → Float) → ℕ → ℕ → Float
basis f left right zero r = f1
basis f left right (suc j) r = raised f left right (basis f left right j) (suc j) r

-- the four of degree three
abbrev pub four : (ℕ → Float) → List Float
four n = n 0 ∷ n 1 ∷ n 2 ∷ n 3 ∷ []

unfoldable pub basis_span_weights : Format → List Float → ℕ → Float → List Float
basis_span_weights f ks span x = four (basis f (left_of f ks span x) (right_of f ks span x) 3)
