-- What the sums of a block are, in short names for the contracts. Assumes nothing.
--     strides          an entry for each axis, axis 0 first
--     spots            the queries
use Rattle.std.specs.Prelude.{◌≡◌, List, ℕ, ◌+◌, ◌-◌, ◌*◌, ◌≤◌, ◌<◌, length, get_or, set, Float}
use Rattle.std.specs.Float.{Format}
use Rattle.shape.specs.Cells.{put}
use Rattle.interp_math.specs.Sum.{summed, gradient_part}
use Rattle.evaluation.specs.Batch.{written}
use Rattle.evaluation.specs.Block.{reach}
use Rattle.evaluation.specs.Stages.{no_spot}
use Rattle.evaluation.specs.declared.stages.Spot.{Spot}

-- there are one to four axes, the last has stride 1, and from the first coefficient of each query on all that count are there
pub record Summable (count : ℕ) (strides : List ℕ) (coefs : List Float) (first : ℕ) : Type 0 where
  pub some : 1 ≤ count
  pub few : count ≤ 4
  pub last : get_or strides (count - 1) 0 ≡ 1
  pub within : first + reach strides < length coefs

module _ (f : Format) (coefs : List Float) (strides : List ℕ) (count : ℕ) (spots : List Spot) where
  -- the value of query k, and part j of its gradient
  abbrev pub value_of : ℕ → Float
  value_of k = let s = get_or spots k no_spot in summed f coefs strides s.weights count s.first

  abbrev pub part_of : ℕ → ℕ → Float
  part_of k j = let s = get_or spots k no_spot in gradient_part f coefs strides s.weights s.slopes count s.first j

  -- the output with the values of m queries written, from entry `from` on
  abbrev pub values_put : ℕ → ℕ → List Float → List Float
  values_put from m out = written (λ k o. set o (from + k) (value_of k)) m out

  -- with their gradients, from entry `from` of n on: part j of entry i stands at j n + i
  abbrev pub gradients_put : ℕ → ℕ → ℕ → List Float → List Float
  gradients_put n from m out = written (λ k o. put (λ j. j * n + (from + k)) (part_of k) count o) m out
