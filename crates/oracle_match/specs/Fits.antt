-- What a fit leaves, as its record expects it. Assumes nothing.
use Rattle.std.specs.Prelude.{◌≡◌, Bool, true, ◌&&◌, List, ℕ, ◌+◌, length, Float}
use Rattle.float_text.specs.Bits.{same_bits}
use Rattle.oracle_list.specs.Agree.{float_at, CellsAgree}
use Rattle.oracle_list.specs.Cells.{half, one, minus_quarter, minus_one, counted, same_cells, is_near}
use Rattle.oracle_list.specs.Words.{number_at}

-- both buffers are as they are before every call: coefficient cell i holds i + 1/2, scratch cell i holds -i - 1/4
unfoldable pub is_untouched : List Float → List Float → Bool
is_untouched coefs scratch =
    same_cells coefs (counted half one (length coefs)) && same_cells scratch (counted minus_quarter minus_one (length scratch))

-- word 0 is 3 where the record is a published figure, word 12 is then its tolerance
abbrev pub IsPublished : List ℕ → Type 0
IsPublished text = number_at text 0 ≡ 3

-- after a refusal both buffers are as before; else a published figure has near coefficients from word `first` on, and any other
-- fit the same bits, in scratch too
pub record FitLeft (text : List ℕ) (answer first : ℕ) (coefs scratch : List Float) : Type 0 where
  pub untouched : (answer ≡ 0 → ⊥) → is_untouched coefs scratch ≡ true
  pub near : answer ≡ 0 → IsPublished text → CellsAgree (is_near (float_at text 12)) text first coefs
  pub same : answer ≡ 0 → (IsPublished text → ⊥) → CellsAgree same_bits text first coefs
  pub left : answer ≡ 0 → (IsPublished text → ⊥) → CellsAgree same_bits text (first + length coefs) scratch
