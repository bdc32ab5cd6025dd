-- What C is handed. Assumes nothing.
use Rattle.std.specs.Prelude.{◌≡◌, cond, ℕ, eqb}

-- the call answers so, and writes `value` only where it is accepted
pub record Wrote {A : Type 0} (expected : ℕ) (value before : A) (answer : ℕ) (after : A) : Type 0 where
  pub answers : answer ≡ expected
  pub leaves : after ≡ cond (eqb expected 0) value before
