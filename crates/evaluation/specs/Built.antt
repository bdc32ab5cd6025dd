-- What a function that builds a map hands out, on either grid. Assumes nothing.
use Rattle.std.specs.Prelude.{◌≡◌, ℕ, Result, IfOk}
use Rattle.shape.specs.Refusal.{answer_number}
use Rattle.shape.specs.declared.answers.Refusal.{Refusal}

-- its answer is the expected one, and the map that it hands out stands for `made`
pub record BuiltFrom {R M : Type 0} (map_of : R → M) (expected : ℕ) (made : M) (built : Result R Refusal) : Type 0 where
  pub answers : answer_number built ≡ expected
  pub handed : IfOk built (λ map. map_of map ≡ made)
