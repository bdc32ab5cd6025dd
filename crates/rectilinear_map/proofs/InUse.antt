-- Entries for axes not in use are not looked at. Assumes nothing.
use mathlib.Core.Path.{◌≡◌, refl, ap}
use mathlib.Core.List.{List}
use Prim.Native.Nat.{ℕ}
use lib.ListN.{length, take}
use lib.Ieee.{Float, Format}
use Rattle.knots.specs.declared.place.Loc.{Loc}
use Rattle.evaluation.proofs.InUse.{take_same}
use Rattle.evaluation.proofs.ByAxis.{SameAxes, spline-same}
use Rattle.rectilinear_blocks.specs.Map.{RectilinearMap}
use Rattle.rectilinear_blocks.specs.Eval.{loc_on, weights_on, slopes_on, rectilinear_axes, map_checks}
use Rattle.rectilinear_map.specs.InUse.{SameInUse, UnusedNotLookedAt}

module _ (f : Format) (m m' : RectilinearMap) (grid : List Float) (s : SameInUse m m') where
  dims-same : take m.count m.lens ≡ take m'.count m'.lens
  dims-same = rw (← s.count) (take_same 0 m.count m.lens m'.lens s.as-many-lens s.lens)

  checks-same : (coefs : ℕ) → map_checks m.count m.lens grid coefs ≡ map_checks m'.count m'.lens grid coefs
  checks-same coefs = rw (dims-same, s.count)

  -- the place depends on the grid and the lengths alone
  loc-same : (x : List Float) (a : ℕ) → loc_on m.count m.lens grid x a ≡ loc_on m'.count m'.lens grid x a
  unfolding loc_on
  loc-same x a = rw dims-same

  axes-same : SameAxes (rectilinear_axes f m grid) (rectilinear_axes f m' grid)
  unfolding weights_on slopes_on
  axes-same =
      record {
        same_count = s.count;
        same-dims = dims-same;
        same-places = λ x a h. refl;
        same-origins = λ x a h. ap (λ (l : Loc). l.origin) (loc-same x a);
        same-weights = λ x a h. rw (loc-same x a, dims-same, s.low a h, s.high a h, s.linear);
        same-slopes = λ x a h. rw (loc-same x a, dims-same, s.low a h, s.high a h, s.linear);
      }

pub unused-not-looked-at : UnusedNotLookedAt
unused-not-looked-at f m m' grid coefs s = spline-same f (rectilinear_axes f m grid) (rectilinear_axes f m' grid) coefs (axes-same f m m' grid s) (checks-same f m m' grid s (length coefs))
