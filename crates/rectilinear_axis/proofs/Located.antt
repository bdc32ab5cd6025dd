-- The place of a coordinate by the count of the knots below it, and the weights and slopes there. For every format. Assumes nothing.
use mathlib.Core.Path.{◌≡◌, refl, sym, ap, ◌∙◌}
use native.Mathlib.Omega.{arith}
use mathlib.Core.Bool.{Bool}
use mathlib.Core.List.{List}
use Prim.Native.Nat.{ℕ, ◌+◌, ◌≤◌, ◌<◌}
use lib.ListN.{length}
use lib.Ieee.{Float, Format}
use Rattle.knots.specs.Knots.{count_below}
use Rattle.knots.specs.Place.{loc_of, get_loc}
use Rattle.knots.specs.declared.place.Loc.{Loc}
use Rattle.knots.proofs.Places.{inner-place, get-loc-within}
use Rattle.evaluation.specs.Axis.{FoundAt}
use Rattle.rectilinear_basis.specs.Basis.{basis_span_weights}
use Rattle.rectilinear_slopes.specs.Slopes.{basis_span_weight_derivatives}
use Rattle.rectilinear_weights.proofs.Inner.{inner-interp, inner-slopes}
use Rattle.rectilinear_axis.specs.Axis.{place_weights, place_slopes, rectilinear_axis}

-- the place by the count of the knots below
pub place_is : (ks : List Float) (x : Float) {c : ℕ} {l : Loc} → l ≡ loc_of (length ks) c → c ≡ count_below ks x → l ≡ get_loc ks x
unfolding get_loc
place_is ks x e ec = rw (← ec) e

-- its span lies on the axis, and its origin leaves room for four coefficients
module _ (ks : List Float) (x : Float) {c : ℕ} {l : Loc} (e : l ≡ loc_of (length ks) c) (ec : c ≡ count_below ks x) (four : 4 ≤ length ks) where
  pub span-room : l.span + 1 < length ks
  span-room = rw (place_is ks x e ec) (get-loc-within ks x four).span-room

  pub found-at : (f : Format) (low high : List Float) (linear : Bool) → FoundAt (rectilinear_axis f ks low high linear) x l.origin
  found-at f low high linear =
      let is = place_is ks x e ec in
      record { placed = refl; is = ap (λ (l : Loc). l.origin) is; room = rw is (omega (arith, (get-loc-within ks x four).origin-most)) }

-- the weights and the slopes where the six knots beside the span are knots of the grid
module _ (f : Format) (ks low high : List Float) (linear : Bool) (x : Float) {c : ℕ} {l : Loc} {r : List Float} (e : l ≡ loc_of (length ks) c) (ec : c ≡ count_below ks x) (first : 2 ≤ l.span) (last : l.span + 3 < length ks) where
  pub inner-is : r ≡ basis_span_weights f ks l.span x → r ≡ place_weights f ks low high linear x
  unfolding place_weights
  inner-is er = rw (← place_is ks x e ec) (er ∙ sym (inner-interp f ks low high linear l.span x (inner-place (length ks) c e first last)))

  pub inner-slopes-are : r ≡ basis_span_weight_derivatives f ks l.span x → r ≡ place_slopes f ks low high linear x
  unfolding place_slopes
  inner-slopes-are er = rw (← place_is ks x e ec) (er ∙ sym (inner-slopes f ks low high linear l.span x (inner-place (length ks) c e first last)))
