-- What looking at a shape finds. For contracts inside the library. Assumes nothing.
use Rattle.std.specs.Prelude.{◌≡◌, Result, Ok, Err, List, ℕ}
use Rattle.shape.specs.Checks.{shape_checks, first_refusal}
use Rattle.shape.specs.Refusal.{refusal_number}
use Rattle.shape.specs.declared.answers.Refusal.{Refusal}
use Rattle.shape.specs.declared.axes.Axes.{Axes}

-- its axes where the answer of a call's checks, the shape's among them, is 0; else that answer
abbrev pub AxesOnce : ℕ → ℕ → List ℕ → Result Axes Refusal → Type 0
AxesOnce answer count lens (Ok axes) = (answer ≡ 0) × ((axes.count ≡ count) × (axes.dims ≡ lens))
AxesOnce answer count lens (Err refusal) = refusal_number refusal ≡ answer

-- the shape's own checks
abbrev pub AxesFound : ℕ → List ℕ → Result Axes Refusal → Type 0
AxesFound count lens found = AxesOnce (first_refusal (shape_checks count lens)) count lens found
