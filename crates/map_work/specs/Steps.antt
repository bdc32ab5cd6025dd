-- What the functions of the map program promise each other. Assumes nothing.
use Rattle.std.specs.Prelude.{◌≡◌, Bool, cond, List, eqb, ℕ, ◌+◌, ◌*◌, ◌≤◌, ◌<◌, length, Float, Option, Some, None}
use Rattle.shape.specs.Checks.{first_refusal, limit_checks}
use Rattle.shape.specs.Shape.{size}
use Rattle.shape.specs.Usable.{Usable}
use Rattle.map_fields.specs.Fields.{fields, floats_in, room_of}
use Rattle.map_fields.specs.Head.{Head}
use Rattle.map_fields.specs.Records.{head_of}
use Rattle.map_fields.specs.declared.head.FirstLine.{FirstLine}
use Rattle.map_print.specs.Print.{Wrote, map_line}
use Rattle.map_spline.specs.Surface.{Surface, asked_outside}
use Rattle.map_work.specs.Program.{answer, second}

-- with n bytes printed of a page of `size`, the rest can be: a readable query line of k floats has at least 17 k bytes with its
-- newline, and its answer at most 21 + 17 k, so three bytes out for one in are enough, and 128 for the turn in hand
pub record Ready (ls : List (List ℕ)) (axes n size : ℕ) : Type 0 where
  pub short : room_of ls ≤ 32769
  pub some-axis : 1 ≤ axes
  pub at-most-four : axes ≤ 4
  pub room : n + 3 * room_of ls + 128 ≤ size

-- a query line is read as the floats x, and its answer printed
pub record Answered (line : List ℕ) (s : Surface) (old : List ℕ) (outside : Bool) (new : List ℕ) : Type 0 where
  pub x : List Float
  pub read : floats_in s.spline.axes (fields line) ≡ Some x
  pub text : Wrote old (answer s x) new
  pub side : outside ≡ asked_outside s x

-- or it cannot be read, and nothing is printed
abbrev pub Asked : List ℕ → Surface → List ℕ → Option Bool → List ℕ → Type 0
Asked line s old (Some outside) new = Answered line s old outside new
Asked line s old None new = (floats_in s.spline.axes (fields line) ≡ None) × (new ≡ old)

-- what was read: the bytes kept, and those of a further read, which is made once 32,768 bytes are kept
pub record Kept (input spare : ℕ) : Type 0 where
  pub most : input ≤ 32768
  pub full : 0 < spare → input ≡ 32768

-- the shape of line 1 is accepted, within the program's limit
pub record Shaped (line : FirstLine) : Type 0 where
  pub usable : Usable line.count line.dims
  pub four : length line.dims ≡ 4
  pub small : size (head_of line).dims ≤ 512

-- what is printed from line 2 on, for a shape of four lengths
abbrev pub from_shape : Head → ℕ → List (List ℕ) → List ℕ
from_shape h count ls =
    cond (eqb (first_refusal (limit_checks 512 count h.dims)) 0) (second h ls) (map_line (first_refusal (limit_checks 512 count h.dims)))
