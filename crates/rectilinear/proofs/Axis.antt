-- An axis by the knots ks and the ghost numbers that the code works out, for both formats. Assumes nothing.
use mathlib.Core.Path.{◌≡◌}
use mathlib.Core.List.{List}
use Prim.Native.Nat.{ℕ, ◌≤◌, ◌<◌}
use lib.ListN.{length, take}
use lib.Ieee.{Float, Format}
use Rattle.shape.specs.Usable.{Usable}
use Rattle.knots.specs.Joined.{total, knots_of}
use Rattle.knots.proofs.Totals.{part-long}
use Rattle.rectilinear_weights.specs.Ghosts.{low_ghost_coeffs, high_ghost_coeffs}
use Rattle.rectilinear_lines.specs.Rows.{system, upper_number}
use Rattle.rectilinear.specs.Fit.{axis_system, upper}

module _ (count : ℕ) (lens : List ℕ) (four : length lens ≡ 4) (u : Usable count lens) (a : ℕ) (ha : a < count) (grid : List Float) {ks : List Float} (joined : length grid ≡ total (take count lens)) (part : ks ≡ knots_of grid (take count lens) a) where
  pub knots-long : 4 ≤ length ks
  knots-long = rw part (part-long count lens four u a ha grid joined)

-- the solver of a line
module _ (f : Format) (grid : List Float) (dims : List ℕ) (a : ℕ) {ks low high : List Float} (part : ks ≡ knots_of grid dims a) (el : low ≡ low_ghost_coeffs f ks) (eh : high ≡ high_ghost_coeffs f ks) where
  pub system-is : system f ks low high ≡ axis_system f grid dims a
  system-is = rw (el, eh) (rw part)

  pub upper_is : upper_number f ks low high ≡ upper f grid dims a
  upper_is = rw (el, eh) (rw part)
