-- The numbers of the refusals. Assumes nothing.
use Rattle.std.specs.Prelude.{ℕ, Result, Ok, Err}
use Rattle.shape.specs.declared.answers.Refusal.{Refusal}
use Rattle.shape.specs.declared.answers.Refusal.TheVariants.{AxisCount, DimensionMismatch, TooManyPoints, ScratchTooSmall, NotIncreasing, Unrepresentable, NoSuchLine, AlreadySolved, NotDue}

abbrev pub refusal_number : Refusal → ℕ
refusal_number AxisCount = 1
refusal_number DimensionMismatch = 2
refusal_number TooManyPoints = 3
refusal_number ScratchTooSmall = 4
refusal_number NotIncreasing = 5
refusal_number Unrepresentable = 6
refusal_number NoSuchLine = 7
refusal_number AlreadySolved = 8
refusal_number NotDue = 9

-- an accepted call answers 0, whatever else it hands back
abbrev pub answer_number : {A : Type 0} → Result A Refusal → ℕ
answer_number (Ok found) = 0
answer_number (Err refusal) = refusal_number refusal

-- what an accepted call hands back; `none` where it is refused
abbrev pub answer_or : {A : Type 0} → A → Result A Refusal → A
answer_or none (Ok found) = found
answer_or none (Err refusal) = none
