-- The bytes of a line, and what a search for a line that is due finds. For contracts inside the library. Assumes nothing.
use Rattle.std.specs.Prelude.{Result, Ok, Err, ◌≡◌, List, ℕ, ◌<◌}
use Rattle.shape.specs.Cells.{line}
use Rattle.shape.specs.Checks.{first_refusal}
use Rattle.shape.specs.Refusal.{refusal_number}
use Rattle.shape.specs.Line.{LineIs}
use Rattle.shape.specs.declared.answers.Refusal.{Refusal}
use Rattle.shape.specs.declared.line.Line.{Line}
use Rattle.book.specs.LineCall.{due_checks}

-- each byte of a line is a
abbrev pub EachByte : ℕ → Line → List ℕ → Type 0
EachByte a found ledger = (i : ℕ) → i < found.n → line 0 found.base found.stride ledger i ≡ a

-- the same for each entry
abbrev pub each : ℕ → ℕ → ℕ
each v i = v

-- line l of axis a, by its numbers, where it is due; else the refusal
abbrev pub DueLooked : List ℕ → ℕ → ℕ → List ℕ → Result Line Refusal → Type 0
DueLooked dims a l ledger (Ok found) = LineIs dims a l found × (first_refusal (due_checks dims a l ledger) ≡ 0)
DueLooked dims a l ledger (Err refusal) = refusal_number refusal ≡ first_refusal (due_checks dims a l ledger)
