-- The ends of the range of cells, by computing, on an axis of 5 points. Assumes nothing.
use Rattle.std.proofs.Common.{Option, ◌≡◌, List, [], ◌∷◌, map, refl}
use lib.Ieee.{Float, binary64, of_bits}
use Rattle.multibspline.specs.declared.saturation.Saturation.TheVariants.{OutsideLow, OutsideHigh}
use Rattle.regular_weights.specs.Place.{loc_of}
use Rattle.regular_weights.specs.declared.place.Loc.{Loc}
use Rattle.regular_weights.specs.Place.{at, unrepresentable}

-- a quotient and its place: the largest double below 2^63, 2^63, the smallest double above -2^63, -2^63
abbrev pub ends : List (Float × Option Loc)
ends =
    (of_bits binary64 0x43dfffffffffffff, at OutsideHigh 1)
    ∷ (of_bits binary64 0x43e0000000000000, unrepresentable)
    ∷ (of_bits binary64 0xc3dfffffffffffff, at OutsideLow 0)
    ∷ (of_bits binary64 0xc3e0000000000000, unrepresentable)
    ∷ []

pub ends-of-range : map (λ row. loc_of 5 row.0) ends ≡ map (λ row. row.1) ends
unfolding loc_of of_bits
ends-of-range = refl
