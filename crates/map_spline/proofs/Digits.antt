-- What the map program prints of a call's number is one digit: every check of the calls whose number is printed has a number
-- below 10, whatever other calls refuse with. Assumes nothing.
use mathlib.Core.Path.{◌≡◌, refl, sym}
use mathlib.Core.Bool.{Bool, true, false, cond, ◌&&◌, true≢false}
use mathlib.Core.List.{List, [], ◌∷◌}
use Prim.Native.Nat.{ℕ, ◌<◌}
use lib.Dec.{ltb, lit<}
use lib.ListN.{length, drop}
use lib.Ieee.{Float}
use borrow.Author.Tests.{ltb-true}
use Rattle.shape.specs.Checks.{Check, first_refusal, limit_checks}
use Rattle.evaluation.specs.Spline.{one_answer}
use Rattle.knots.specs.Joined.{all_rise}
use Rattle.regular_blocks.specs.Checks.{any_step_bad}
use Rattle.map_fields.specs.Head.{Head}
use Rattle.map_spline.specs.Surface.{map_number, asked_number, surface_of}
use Rattle.map_spline.specs.declared.build.Map.{Map}

-- ---- checks whose numbers are below a limit

abbrev pub are_below : ℕ → List Check → Bool
are_below most [] = true
are_below most (c ∷ cs) = ltb c.number most && are_below most cs

both : (a b : Bool) → a && b ≡ true → (a ≡ true) × (b ≡ true)
both true b h = (refl, h)
both false b h = absurd (true≢false (sym h))

pub first_below : (most : ℕ) (cs : List Check) → 0 < most → are_below most cs ≡ true → first_refusal cs < most
unfolding first_refusal
first_below most [] p h = p
first_below most (c ∷ cs) p h =
    let w = both (ltb c.number most) (are_below most cs) h in
    go c.fails (ltb-true c.number most w.0) (first_below most cs p w.1)
  where
    go : (t : Bool) → c.number < most → first_refusal cs < most → cond t c.number (first_refusal cs) < most
    go true n r = n
    go false n r = r

-- ---- M: the shape; then steps or knots

pub shape-digit : (most count : ℕ) (dims : List ℕ) → first_refusal (limit_checks most count dims) < 10
shape-digit most count dims = first_below 10 (limit_checks most count dims) (lit< tt) refl

pub map-digit : (h : Head) (row : List Float) → map_number h row < 10
unfolding map_number
map-digit h row = go h.regular (any_step_bad (drop (length h.dims) row)) (all_rise row h.dims (length h.dims))
  where
    go : (t a b : Bool) → cond t (cond a 5 0) (cond b 0 5) < 10
    go true true b = lit< tt
    go true false b = lit< tt
    go false a true = lit< tt
    go false a false = lit< tt

-- ---- V: a query

pub asked-digit : (m : Map) (row coefs x : List Float) → asked_number (surface_of m row coefs) x < 10
unfolding one_answer
asked-digit (Map.Regular m) row coefs x = first_below 10 _ (lit< tt) refl
asked-digit (Map.Rectilinear m) row coefs x = first_below 10 _ (lit< tt) refl
