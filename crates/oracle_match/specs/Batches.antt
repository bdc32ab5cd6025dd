-- The output of a batch, as its record expects it. Assumes nothing.
use Rattle.std.specs.Prelude.{◌≡◌, true, List, ℕ, ◌+◌, ◌*◌, ◌%◌, ◌≤◌, ◌<◌, length, get_or, Float}
use Rattle.std.specs.Float.{nan}
use Rattle.float_text.specs.Bits.{same_bits}
use Rattle.oracle_list.specs.Agree.{CellAgrees}
use Rattle.oracle_list.specs.Cells.{half, one, counted, same_cells}
use Rattle.oracle_list.specs.Words.{number_at}

-- cell x is as word i where j is below `written`, and as it was where it is not
pub record WrittenOr (text : List ℕ) (i j written : ℕ) (before x : Float) : Type 0 where
  pub word : j < written → CellAgrees same_bits text i x
  pub kept : written ≤ j → same_bits x before ≡ true

-- cell i belongs to query i % n, and word `first + i` to it; before the batch cell i held `start` and i steps
abbrev pub CellOf : List ℕ → ℕ → ℕ → ℕ → Float → Float → List Float → ℕ → Type 0
CellOf text first n written start step cells i =
    WrittenOr text (first + i) (i % n) written (get_or (counted start step (length cells)) i nan) (get_or cells i nan)

-- of `count` axes, n cells each, the first `written` cells of each axis are as their words, and the others as before, when cell i
-- held i + 1/2
pub record BatchWritten (text : List ℕ) (first count n written : ℕ) (cells : List Float) : Type 0 where
  pub whole : length cells ≡ count * n
  pub each : (i : ℕ) → i < length cells → CellOf text first n written half one cells i

-- word `at + 1` says how many cells of each axis are written; where none is, all are as before
pub record BatchLeft (text : List ℕ) (at first count n : ℕ) (cells : List Float) : Type 0 where
  pub none : number_at text (at + 1) ≡ 0 → same_cells cells (counted half one (length cells)) ≡ true
  pub some : (number_at text (at + 1) ≡ 0 → ⊥) → BatchWritten text first count n (number_at text (at + 1)) cells
