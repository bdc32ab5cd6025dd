-- The four coefficients from the origin on are on the axis, and so are both ends of the span; the place of a NaN and that of an
-- inner span. Assumes nothing.
use mathlib.Core.Path.{◌≡◌, refl}
use mathlib.Core.Bool.{Bool, true, false, cond}
use mathlib.Core.List.{List}
use Prim.Native.Nat.{ℕ, ◌+◌, ◌-◌, ◌≤◌, ◌<◌}
use native.Mathlib.Omega.{arith}
use lib.Dec.{eqb}
use lib.ListN.{length}
use lib.Ieee.{Float, nan}
use borrow.Author.Tests.{eqb-false}
use Rattle.multibspline.specs.declared.saturation.Saturation.TheVariants.{None, InsideLow, OutsideLow, InsideHigh, OutsideHigh}
use Rattle.knots.specs.Knots.{count_below}
use Rattle.knots.specs.Place.{loc, loc_of, get_loc}
use Rattle.knots.specs.declared.place.Loc.{Loc}
use Rattle.knots.proofs.Counts.{count-le-length, count-nan}

pub record LocWithin (n : ℕ) (l : Loc) : Type 0 where
  pub origin-most : l.origin ≤ n - 4
  pub span-room : l.span + 1 < n

-- the place, by what c is
abbrev place_by : ℕ → ℕ → Bool → Bool → Bool → Bool → Loc
place_by n c none one last all =
    cond none (loc OutsideLow 0 0) (cond one (loc InsideLow 0 0) (cond last (loc InsideHigh (n - 2) (n - 4)) (cond all (loc OutsideHigh (n - 2) (n - 4)) (loc None (c - 1) (c - 2)))))

pub loc-within : (n c : ℕ) → 4 ≤ n → c ≤ n → LocWithin n (loc_of n c)
unfolding loc_of
loc-within n c hn hc = go (eqb c 0) (eqb c 1) (eqb c (n - 1)) (eqb c n) refl refl refl refl
  where
    go : (none one last all : Bool) → eqb c 0 ≡ none → eqb c 1 ≡ one → eqb c (n - 1) ≡ last → eqb c n ≡ all
        → LocWithin n (place_by n c none one last all)
    go true one last all e₀ e₁ e₂ e₃ = record { origin-most = omega arith; span-room = omega arith }
    go false true last all e₀ e₁ e₂ e₃ = record { origin-most = omega arith; span-room = omega arith }
    go false false true all e₀ e₁ e₂ e₃ = record { origin-most = omega arith; span-room = omega arith }
    go false false false true e₀ e₁ e₂ e₃ = record { origin-most = omega arith; span-room = omega arith }
    go false false false false e₀ e₁ e₂ e₃ = record { origin-most = omega (arith, eqb-false c (n - 1) e₂, eqb-false c n e₃); span-room = omega (arith, eqb-false c (n - 1) e₂, eqb-false c n e₃) }

pub get-loc-within : (ks : List Float) (x : Float) → 4 ≤ length ks → LocWithin (length ks) (get_loc ks x)
unfolding get_loc
get-loc-within ks x h = loc-within (length ks) (count_below ks x) h (count-le-length ks x)

-- a NaN query has no knot below it
pub nan-place : (ks : List Float) → get_loc ks nan ≡ loc OutsideLow 0 0
unfolding get_loc loc_of
nan-place ks = rw (count-nan ks)

-- where all six knots beside the span are knots of the axis, the query is at neither end
pub inner-place : (n c : ℕ) {l : Loc} → l ≡ loc_of n c → 2 ≤ l.span → l.span + 3 < n → l.sat ≡ None
unfolding loc_of
inner-place n c e = rw e (go (eqb c 0) (eqb c 1) (eqb c (n - 1)) (eqb c n))
  where
    go : (none one last all : Bool) → 2 ≤ (place_by n c none one last all).span → (place_by n c none one last all).span + 3 < n → (place_by n c none one last all).sat ≡ None
    go true one last all h g = absurd (let q : ⊥ = omega arith in q)
    go false true last all h g = absurd (let q : ⊥ = omega arith in q)
    go false false true all h g = absurd (let q : ⊥ = omega arith in q)
    go false false false true h g = absurd (let q : ⊥ = omega arith in q)
    go false false false false h g = refl
