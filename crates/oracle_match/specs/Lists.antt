-- A list of line calls, as its record expects it. Assumes nothing.
use Rattle.std.specs.Prelude.{◌≡◌, true, List, ℕ, ◌+◌, ◌*◌, length, Float}
use Rattle.float_text.specs.Bits.{same_bits}
use Rattle.oracle_list.specs.Agree.{BytesAgree, CellsAgree}
use Rattle.oracle_list.specs.Cells.{minus_quarter, minus_one, counted, same_cells}

-- a refused call: coefficients and ledger are as they were kept, and scratch cell i still holds -i - 1/4
pub record Kept (coefs kept : List Float) (ledger saved : List ℕ) (scratch : List Float) : Type 0 where
  pub same-coefs : same_cells coefs kept ≡ true
  pub same-ledger : ledger ≡ saved
  pub same-scratch : same_cells scratch (counted minus_quarter minus_one (length scratch)) ≡ true

-- from word `first` on four words a task, the last of them its answer, then the coefficients to the bit, then the ledger
pub record ListLeft (text : List ℕ) (first : ℕ) (told : List ℕ) (coefs : List Float) (ledger : List ℕ) : Type 0 where
  pub same-answers : BytesAgree text (first + 3) 4 told
  pub same-coefs : CellsAgree same_bits text (first + length told * 4) coefs
  pub same-ledger : BytesAgree text (first + length told * 4 + length coefs) 1 ledger
