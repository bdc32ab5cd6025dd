-- An axis of an accepted rectilinear map: its knots, and what it answers. For every format. Assumes nothing.
use mathlib.Core.Path.{◌≡◌, refl}
use mathlib.Core.Bool.{true}
use mathlib.Core.List.{List, []}
use Prim.Native.Nat.{ℕ, ◌+◌, ◌*◌, ◌≤◌, ◌<◌}
use native.Mathlib.Omega.{arith}
use lib.ListN.{length, get_or, take}
use lib.Ieee.{Float, Format, nan}
use Rattle.shape.specs.Usable.{Usable}
use Rattle.knots.specs.Knots.{rises}
use Rattle.knots.specs.Joined.{knots_of, total}
use Rattle.knots.proofs.Totals.{part_length, part-long, axis-rises}
use Rattle.evaluation.specs.Axis.{OneAxis, AxisOf}
use Rattle.rectilinear_axis.specs.Axis.{place_weights, place_slopes, rectilinear_axis}
use Rattle.rectilinear_blocks.specs.Map.{RectilinearMap}
use Rattle.rectilinear_blocks.specs.Eval.{loc_on, weights_on, slopes_on, rectilinear_axes}
use Rattle.rectilinear_blocks.specs.Sound.{Gridded}

module _ (count : ℕ) (lens : List ℕ) (grid : List Float) (four : length lens ≡ 4) (u : Usable count lens) (joined : length grid ≡ total (take count lens)) (a : ℕ) (h : a < count) where
  pub four-knots : {ks : List Float} → ks ≡ knots_of grid (take count lens) a → 4 ≤ length ks
  four-knots e = rw e (part-long count lens four u a h grid joined)

module _ (count : ℕ) (lens : List ℕ) (grid : List Float) (four : length lens ≡ 4) (g : Gridded count lens grid) (a : ℕ) (h : a < count) where
  -- at least four knots, which rise
  pub axis-sound : {ks : List Float} → ks ≡ knots_of grid (take count lens) a → (4 ≤ length ks) × (rises ks ≡ true)
  axis-sound e = (four-knots count lens grid four g.shape g.joined a h e, rw e (axis-rises grid (take count lens) count g.rising a h))

-- an axis of a map
pub axis-of : (f : Format) (m : RectilinearMap) (grid : List Float) → length m.lens ≡ 4 → Gridded m.count m.lens grid → (a : ℕ) → a < m.count → {ks low high : List Float} → ks ≡ knots_of grid (take m.count m.lens) a → low ≡ get_or m.low a [] → high ≡ get_or m.high a []
    → AxisOf (rectilinear_axes f m grid) a (rectilinear_axis f ks low high m.linear)
unfolding loc_on weights_on slopes_on place_weights place_slopes
axis-of f m grid four g a h ek el eh =
    rw (ek, el, eh) record {
      points = part_length m.count m.lens four g.shape a h grid g.joined;
      no_place = λ x. refl;
      origin = λ x. refl;
      weights = λ x. refl;
      slopes = λ x. refl;
    }
