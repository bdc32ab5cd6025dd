-- The ghost numbers of an array of ghosts, one by one. Assumes nothing.
use mathlib.Core.Path.{◌≡◌, refl, sym, ◌∙◌}
use mathlib.Core.List.{List, [], ◌∷◌, map}
use Prim.Native.Nat.{ℕ, zero, suc, ◌<◌}
use native.Mathlib.Nat.{not-suc-le-zero, le_of_suc-le-suc}
use lib.ListN.{length, length-map, get_or}
use Rattle.rectilinear_weights.specs.declared.ghosts.Ghost.{Ghost}
use Rattle.rectilinear_weights.specs.Records.{ghost_numbers}
use Rattle.rectilinear_blocks.specs.Ghosts.{ghosts}

-- an array in a record
pub map-length : {X Y : Type 0} (f : X → Y) (l : List X) (n : ℕ) → length (map f l) ≡ n → length l ≡ n
map-length f l n e = sym (length-map l f) ∙ e

pub ghosts-at : (gs : List Ghost) (a : ℕ) (d : Ghost) → a < length gs → ghost_numbers (get_or gs a d) ≡ get_or (ghosts gs) a []
unfolding ghosts
ghosts-at [] a d h = absurd (not-suc-le-zero h)
ghosts-at (g ∷ gs) zero d h = refl
ghosts-at (g ∷ gs) (suc a) d h = ghosts-at gs a d (le_of_suc-le-suc h)
