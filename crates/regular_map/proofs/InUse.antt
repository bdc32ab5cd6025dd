-- Entries for axes not in use are not looked at. Assumes nothing.
use mathlib.Core.Path.{◌≡◌, ap}
use mathlib.Core.List.{List}
use Prim.Native.Nat.{ℕ, ◌<◌}
use lib.ListN.{length, take}
use lib.Ieee.{Float, Format, nan}
use Rattle.evaluation.proofs.InUse.{take_same}
use Rattle.evaluation.proofs.ByAxis.{SameAxes, spline-same}
use Rattle.regular_blocks.specs.Map.{RegularMap}
use Rattle.regular_axis.specs.Axis.{is_unrepresentable, origin_at}
use Rattle.regular_blocks.specs.Eval.{loc_on, weights_on, slopes_on, regular_axes}
use Rattle.regular_blocks.specs.Checks.{map_checks}
use Rattle.regular_map.specs.InUse.{SameInUse, UnusedNotLookedAt}

module _ (f : Format) (m m' : RegularMap) (s : SameInUse m m') where
  dims-same : take m.count m.lens ≡ take m'.count m'.lens
  dims-same = rw (← s.count) (take_same 0 m.count m.lens m'.lens s.as-many-lens s.lens)

  steps-same : take m.count m.steps ≡ take m'.count m'.steps
  steps-same = rw (← s.count) (take_same nan m.count m.steps m'.steps s.as-many-steps s.steps)

  checks-same : (coefs : ℕ) → map_checks m.count m.lens m.steps coefs ≡ map_checks m'.count m'.lens m'.steps coefs
  checks-same coefs = rw (dims-same, steps-same, s.count)

  loc-same : (x : List Float) (a : ℕ) → a < m.count → loc_on f m x a ≡ loc_on f m' x a
  unfolding loc_on
  loc-same x a h = rw (s.lens a h, s.starts a h, s.steps a h)

  axes-same : SameAxes (regular_axes f m) (regular_axes f m')
  unfolding weights_on slopes_on
  axes-same =
      record {
        same_count = s.count;
        same-dims = dims-same;
        same-places = λ x a h. ap is_unrepresentable (loc-same x a h);
        same-origins = λ x a h. ap origin_at (loc-same x a h);
        same-weights = λ x a h. rw (loc-same x a h, s.starts a h, s.steps a h, s.linear);
        same-slopes = λ x a h. rw (loc-same x a h, s.starts a h, s.steps a h, s.linear);
      }

pub unused-not-looked-at : UnusedNotLookedAt
unused-not-looked-at f m m' coefs s = spline-same f (regular_axes f m) (regular_axes f m') coefs (axes-same f m m' s) (checks-same f m m' s (length coefs))
