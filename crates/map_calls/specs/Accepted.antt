-- A map that a caller has lent, once its checks have passed. What functions of the library promise each other; a caller has no use
-- for it. Assumes nothing.
use Rattle.std.specs.Prelude.{◌≡◌, Result, Ok, Err, List, ℕ, take}
use Rattle.shape.specs.Shape.{size}
use Rattle.shape.specs.Usable.{Usable}
use Rattle.shape.specs.Checks.{Check, first_refusal}
use Rattle.shape.specs.Refusal.{refusal_number}
use Rattle.shape.specs.declared.answers.Refusal.{Refusal}
use Rattle.evaluation.specs.ByAxis.{ByAxis}

-- an accepted shape, and as many coefficients as the map has points
pub record Filled (map : ByAxis) (coefs : ℕ) : Type 0 where
  pub shape : Usable map.count map.lens
  pub sized : coefs ≡ size (take map.count map.lens)

-- the map, where its checks pass; else their refusal
abbrev pub AcceptedAs : {M : Type 0} → (M → ByAxis) → List Check → ByAxis → ℕ → Result M Refusal → Type 0
AcceptedAs view checks map coefs (Ok m) = (first_refusal checks ≡ 0) × ((view m ≡ map) × Filled map coefs)
AcceptedAs view checks map coefs (Err refusal) = refusal_number refusal ≡ first_refusal checks
