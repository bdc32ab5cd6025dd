-- The map that a joined grid makes, with the ghost numbers that its knots give: the places look at none, an axis at its own, and it
-- is the map that building makes. For every format. Assumes nothing.
use mathlib.Core.Path.{◌≡◌, refl, sym, subst}
use mathlib.Core.Bool.{Bool}
use mathlib.Core.List.{List, []}
use Prim.Native.Nat.{ℕ, zero, suc, ◌<◌}
use native.Mathlib.Omega.{arith}
use lib.ListN.{length, get_or, take, get_or-eq_default}
use lib.Ieee.{Float, Format}
use borrow.Author.Tests.{lt-ltb}
use Rattle.knots.specs.Joined.{knots_of}
use Rattle.rectilinear_weights.specs.Ghosts.{low_ghost_coeffs, high_ghost_coeffs}
use Rattle.evaluation.specs.Axes.{in_use}
use Rattle.evaluation.specs.Axis.{AxisOf}
use Rattle.evaluation.specs.Spline.{Spline, OneValue}
use Rattle.evaluation.proofs.Entries.{axis-at}
use Rattle.rectilinear_axis.specs.Axis.{rectilinear_axis}
use Rattle.rectilinear_blocks.specs.Map.{RectilinearMap}
use Rattle.rectilinear_blocks.specs.Eval.{rectilinear_axes, rectilinear}
use Rattle.rectilinear_blocks.specs.Sound.{Gridded}
use Rattle.rectilinear_blocks.proofs.Room.{axis-of}
use Rattle.rectilinear_map.specs.Map.{low_ghosts, high_ghosts, of_grid, made}
use Rattle.rectilinear_map.proofs.InUse.{unused-not-looked-at}

-- the places of a query, whatever the ghost numbers of m are
pub own-places : (f : Format) (m : RectilinearMap) (grid x : List Float) (a : ℕ)
    → ((rectilinear_axes f m grid).no_place x a ≡ (rectilinear_axes f (of_grid f m.count m.lens grid m.linear) grid).no_place x a)
    × ((rectilinear_axes f m grid).origin x a ≡ (rectilinear_axes f (of_grid f m.count m.lens grid m.linear) grid).origin x a)
own-places f m grid x a = (refl, refl)

-- an axis by its knots ks
pub own-axis : (f : Format) (count : ℕ) (lens : List ℕ) (grid : List Float) (linear : Bool) → length lens ≡ 4 → Gridded count lens grid → (a : ℕ) → a < count → {ks : List Float} → ks ≡ knots_of grid (take count lens) a
    → AxisOf (rectilinear_axes f (of_grid f count lens grid linear) grid) a (rectilinear_axis f ks (low_ghost_coeffs f ks) (high_ghost_coeffs f ks) linear)
unfolding low_ghosts high_ghosts
own-axis f count lens grid linear four g a h e =
    let few = g.shape.at-most-four in
    axis-of f (of_grid f count lens grid linear) grid four g a h e
    (rw e (sym (axis-at _ [] count (λ b. low_ghost_coeffs f (knots_of grid (take count lens) b)) a h few)))
    (rw e (sym (axis-at _ [] count (λ b. high_ghost_coeffs f (knots_of grid (take count lens) b)) a h few)))

-- ---- the map that building makes

-- entries for axes that no map has are 0 in both
in-use-at : (count : ℕ) (lens : List ℕ) → length lens ≡ 4 → (a : ℕ) → a < count → get_or lens a 0 ≡ get_or (in_use 0 0 count lens) a 0
unfolding in_use
in-use-at count lens four zero h = rw (lt-ltb 0 count h)
in-use-at count lens four (suc zero) h = rw (lt-ltb 1 count h)
in-use-at count lens four (suc (suc zero)) h = rw (lt-ltb 2 count h)
in-use-at count lens four (suc (suc (suc zero))) h = rw (lt-ltb 3 count h)
in-use-at count lens four (suc (suc (suc (suc a)))) h = get_or-eq_default lens 0 (omega (arith, four))

made-same : (f : Format) (count : ℕ) (lens : List ℕ) (grid : List Float) (linear : Bool) (coefs : List Float) → length lens ≡ 4
    → rectilinear f (of_grid f count lens grid linear) grid coefs ≡ rectilinear f (made f count lens grid linear) grid coefs
unfolding made in_use
made-same f count lens grid linear coefs four =
    unused-not-looked-at f (of_grid f count lens grid linear) (made f count lens grid linear) grid coefs
    (record { count = refl; linear = refl; lens = in-use-at count lens four; low = λ a h. refl; high = λ a h. refl; as-many-lens = four })

-- what a single query answers
pub made_one : (f : Format) (count : ℕ) (lens : List ℕ) (grid : List Float) (linear : Bool) (coefs : List Float) → length lens ≡ 4 → (x : List Float) {answer : ℕ} {v : Float}
    → OneValue (rectilinear f (of_grid f count lens grid linear) grid coefs) x answer v → OneValue (rectilinear f (made f count lens grid linear) grid coefs) x answer v
made_one f count lens grid linear coefs four x {answer} {v} w = subst (λ (s : Spline). OneValue s x answer v) (made-same f count lens grid linear coefs four) w
