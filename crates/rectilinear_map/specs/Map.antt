-- What the functions that build a rectilinear map leave. Assumes nothing.
use Rattle.std.specs.Prelude.{Bool, false, List, [], ◌∷◌, ℕ, take, Float}
use Rattle.std.specs.Float.{Format}
use Rattle.multibspline.specs.Numbers.{f0}
use Rattle.knots.specs.Joined.{knots_of}
use Rattle.rectilinear_weights.specs.Ghosts.{low_ghost_coeffs, high_ghost_coeffs}
use Rattle.evaluation.specs.Axes.{per_axis, in_use}
use Rattle.rectilinear_blocks.specs.Map.{RectilinearMap}

abbrev pub no_ghost : List Float
no_ghost = f0 ∷ f0 ∷ f0 ∷ []

-- the ghost numbers of each axis: those that its knots give
unfoldable pub low_ghosts : Format → ℕ → List ℕ → List Float → List (List Float)
low_ghosts f count lens grid = per_axis no_ghost count (λ a. low_ghost_coeffs f (knots_of grid (take count lens) a))

unfoldable pub high_ghosts : Format → ℕ → List ℕ → List Float → List (List Float)
high_ghosts f count lens grid = per_axis no_ghost count (λ a. high_ghost_coeffs f (knots_of grid (take count lens) a))

-- the map that building makes
unfoldable pub made : Format → ℕ → List ℕ → List Float → Bool → RectilinearMap
made f count lens grid linear = record {
  count = count;
  lens = in_use 0 0 count lens;
  low = low_ghosts f count lens grid;
  high = high_ghosts f count lens grid;
  linear = linear;
}

-- the same with the lengths as they are handed over: entries for axes not in use are not looked at
abbrev pub of_grid : Format → ℕ → List ℕ → List Float → Bool → RectilinearMap
of_grid f count lens grid linear = record {
  count = count;
  lens = lens;
  low = low_ghosts f count lens grid;
  high = high_ghosts f count lens grid;
  linear = linear;
}

-- nothing but zeros
abbrev pub blank : RectilinearMap
blank = record {
  count = 0;
  lens = 0 ∷ 0 ∷ 0 ∷ 0 ∷ [];
  low = no_ghost ∷ no_ghost ∷ no_ghost ∷ no_ghost ∷ [];
  high = no_ghost ∷ no_ghost ∷ no_ghost ∷ no_ghost ∷ [];
  linear = false;
}
