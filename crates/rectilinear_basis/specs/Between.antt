-- The weights on a span by the six knots beside it, which are the same for every x. Inner: what functions of the library promise
-- each other; a caller has no use for it. Assumes nothing.
use Rattle.std.specs.Prelude.{List, [], ◌∷◌, ℕ, ◌+◌, pos, Float}
use Rattle.std.proofs.Math.IntN.{sub_ℕ}
use Rattle.std.specs.Float.{Format}
use Rattle.std.specs.Float.Ieee.{sub}
use Rattle.multibspline.specs.Numbers.{f0}
use Rattle.multibspline.specs.Thomas.{at}
use Rattle.rectilinear_basis.specs.Knot.{knot}
use Rattle.rectilinear_basis.specs.Basis.{basis, four}

unfoldable pub span_knots : Format → List Float → ℕ → List Float
span_knots f ks span =
    knot f ks (sub_ℕ (span + 1) 3)
    ∷ knot f ks (sub_ℕ (span + 1) 2)
    ∷ knot f ks (sub_ℕ (span + 1) 1)
    ∷ knot f ks (pos (span + 1))
    ∷ knot f ks (pos (span + 2))
    ∷ knot f ks (pos (span + 3))
    ∷ []

unfoldable pub weights_between : Format → List Float → Float → List Float
weights_between f u x =
    four
    (basis f (at (f0 ∷ sub f x (at u 2) ∷ sub f x (at u 1) ∷ sub f x (at u 0) ∷ []))
    (at (f0 ∷ sub f (at u 3) x ∷ sub f (at u 4) x ∷ sub f (at u 5) x ∷ []))
    3)
