-- A query by itself, as its record expects it. Assumes nothing.
use Rattle.std.specs.Prelude.{List, ℕ, ◌+◌, ◌*◌, ◌<◌, get_or, Float}
use Rattle.std.specs.Float.{nan, binary64}
use Rattle.std.specs.Float.Ieee.{of_bits}
use Rattle.float_text.specs.Bits.{same_bits}
use Rattle.oracle_list.specs.Agree.{CellAgrees}
use Rattle.oracle_list.specs.Words.{IsNumber}
use Rattle.oracle_match.specs.Batches.{WrittenOr}

-- a part of a gradient is as word i where axis k is in use, and 0 where it is not
abbrev pub PartAgrees : List ℕ → ℕ → ℕ → ℕ → List Float → Type 0
PartAgrees text i k count parts = WrittenOr text i k count (of_bits binary64 0) (get_or parts k nan)

-- the words of a gradient are n apart
abbrev pub Sloped : List ℕ → ℕ → ℕ → ℕ → List Float → Type 0
Sloped text at n count parts = (k : ℕ) → k < 4 → PartAgrees text (at + k * n) k count parts

-- word `at` is the number of both answers, the word n further on the value's, and from the one n further on there is the gradient
pub record QueryAnswered (text : List ℕ) (at n count valued : ℕ) (value : Float) (sloped : ℕ) (parts : List Float) : Type 0 where
  pub valued_number : IsNumber text at valued
  pub sloped-number : IsNumber text at sloped
  pub same-value : CellAgrees same_bits text (at + n) value
  pub same_parts : Sloped text (at + n + n) n count parts
