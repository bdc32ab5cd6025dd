-- What a function that builds a map hands out, outcome by outcome. Assumes nothing.
use Rattle.std.proofs.Common.{◌≡◌, ℕ, Result, Ok, Err}
use Rattle.shape.specs.Refusal.{refusal_number}
use Rattle.shape.specs.declared.answers.Refusal.{Refusal}
use Rattle.evaluation.specs.Built.{BuiltFrom}

module _ {R M : Type 0} {map_of : R → M} {expected : ℕ} {made : M} where
  pub built-refused : (r : Refusal) → refusal_number r ≡ expected → BuiltFrom map_of expected made (Err r)
  built-refused r e = record { answers = e; handed = tt }

  pub built-accepted : {map : R} → ◌≡◌ {A = ℕ} 0 expected → map_of map ≡ made → BuiltFrom map_of expected made (Ok map)
  built-accepted e em = record { answers = e; handed = em }

  pub built-at : {other : ℕ} {built : Result R Refusal} → expected ≡ other → BuiltFrom map_of other made built → BuiltFrom map_of expected made built
  built-at e w = rw e w
