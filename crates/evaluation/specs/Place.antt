-- What a call answers that finds the place of a coordinate on one axis of a map, on either grid. Assumes nothing.
use Rattle.std.specs.Prelude.{◌≡◌, cond, not, List, ◌∷◌, ◌++◌, ℕ, eqb, ltb}
use Rattle.shape.specs.Checks.{Check, refuse, first_refusal}

-- its checks: those of the map, and of the grid that is lent with it; 7, the map has no axis a; those of the coordinate
abbrev pub place_checks : List Check → ℕ → ℕ → List Check → List Check
place_checks map count a coordinate = map ++ (refuse 7 (not (ltb a count)) ∷ coordinate)

-- the number of the first check that fails, and the place; `none` where a check fails
pub record PlaceFound {L : Type 0} (checks : List Check) (place none : L) (number : ℕ) (found : L) : Type 0 where
  pub answers : number ≡ first_refusal checks
  pub finds : found ≡ cond (eqb (first_refusal checks) 0) place none
