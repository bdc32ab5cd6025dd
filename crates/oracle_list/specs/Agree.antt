-- Bytes and cells of buffers, as the words of a record expect them. Assumes nothing.
use Rattle.std.specs.Prelude.{◌≡◌, Bool, true, List, ℕ, ◌+◌, ◌*◌, ◌<◌, length, get_or, Float, Some}
use Rattle.std.specs.Float.{nan, binary64}
use Rattle.std.specs.Float.Ieee.{of_bits}
use Rattle.float_text.specs.Bits.{same_bits}
use Rattle.oracle_list.specs.Cells.{is_near}
use Rattle.oracle_list.specs.Words.{word_at, number_at, IsNumber}
use Rattle.oracle_list.specs.declared.cells.Test.{Test}

-- byte i is word `first + i * step`, and so is every byte
abbrev pub ByteAgrees : List ℕ → ℕ → ℕ → List ℕ → ℕ → Type 0
ByteAgrees text first step bytes i = IsNumber text (first + i * step) (get_or bytes i 0)

abbrev pub BytesAgree : List ℕ → ℕ → ℕ → List ℕ → Type 0
BytesAgree text first step bytes = (i : ℕ) → i < length bytes → ByteAgrees text first step bytes i

-- the float of word i
abbrev pub float_at : List ℕ → ℕ → Float
float_at text i = of_bits binary64 (number_at text i)

-- what a cell has to pass with the float of its word
abbrev pub test_of : Test → Float → Float → Bool
test_of Test.Same = same_bits
test_of (Test.Near tolerance) = is_near tolerance

-- cell x passes a test with the float of word i
pub record CellAgrees (test : Float → Float → Bool) (text : List ℕ) (i : ℕ) (x : Float) : Type 0 where
  pub bits : ℕ
  pub read : word_at text i ≡ Some bits
  pub passes : test x (of_bits binary64 bits) ≡ true

-- cell i of a list does, with word `first + i`, and so does every cell
abbrev pub CellAt : (Float → Float → Bool) → List ℕ → ℕ → List Float → ℕ → Type 0
CellAt test text first cells i = CellAgrees test text (first + i) (get_or cells i nan)

abbrev pub CellsAgree : (Float → Float → Bool) → List ℕ → ℕ → List Float → Type 0
CellsAgree test text first cells = (i : ℕ) → i < length cells → CellAt test text first cells i
