-- The map program: what it prints, of what it reads; bytes in, bytes out. Assumes nothing.
use Rattle.std.specs.Prelude.{Bool, true, false, cond, List, [], ◌∷◌, ◌++◌, ℕ, ◌+◌, eqb, ltb, length, Float, Option, Some, None}
use Rattle.std.specs.Float.{binary64}
use Rattle.shape.specs.Shape.{size}
use Rattle.shape.specs.Checks.{first_refusal, limit_checks}
use Rattle.map_fields.specs.Fields.{lines, fields, floats_in, row_in, rest}
use Rattle.map_fields.specs.Head.{Head, head_in}
use Rattle.map_print.specs.Print.{unreadable_line, map_line, answer_line, total_line}
use Rattle.map_spline.specs.Surface.{Surface, row_length, map_number, surface, asked_number, asked_value, asked_gradient, asked_outside}

-- go on with what was read, or end with a line
abbrev pub when_read : {A : Type 0} → Option A → List ℕ → (A → List ℕ) → List ℕ
when_read None end go = end
when_read (Some x) end go = go x

-- ---- the queries

-- V
abbrev pub answer : Surface → List Float → List ℕ
answer s x = answer_line (asked_number s x) (asked_value s x) (asked_gradient s x)

abbrev pub one_if : Bool → ℕ
one_if true = 1
one_if false = 0

-- one query a line, after n queries of which o are outside; the first is on line 4
unfoldable pub queries : Surface → ℕ → ℕ → List (List ℕ) → List ℕ
queries s n o [] = total_line n o
queries s n o (l ∷ ls) =
    when_read (floats_in s.spline.axes (fields l)) (unreadable_line (n + 4)) (λ x. answer s x ++ queries s (n + 1) (o + one_if (asked_outside s x)) ls)

-- ---- the map

-- M, and the queries; after a refusal no more is printed
unfoldable pub fitted : Head → List Float → List Float → List (List ℕ) → List ℕ
fitted h row samples ls = map_line (map_number h row) ++ cond (eqb (map_number h row) 0) (queries (surface binary64 h row samples) 0 0 ls) []

-- from line 3 on: as many samples as points
unfoldable pub third : Head → List Float → List (List ℕ) → List ℕ
third h row ls = when_read (row_in (size h.dims) ls) (unreadable_line 3) (λ samples. fitted h row samples (rest ls))

-- from line 2 on
unfoldable pub second : Head → List (List ℕ) → List ℕ
second h ls = when_read (row_in (row_length h) ls) (unreadable_line 2) (λ row. third h row (rest ls))

-- the refusals of a shape, before line 2 is read, with the program's own limit
unfoldable pub shape_number : List ℕ → ℕ
shape_number dims = first_refusal (limit_checks 512 (length dims) dims)

-- ---- line 1, which is read whole before it is refused

unfoldable pub shaped : Head → List (List ℕ) → List ℕ
shaped h ls = cond (eqb (shape_number h.dims) 0) (second h ls) (map_line (shape_number h.dims))

unfoldable pub first : List (List ℕ) → List ℕ
first [] = unreadable_line 1
first (l ∷ ls) = when_read (head_in (fields l)) (unreadable_line 1) (λ h. shaped h ls)

-- the program, of all that it reads: more than 32,768 bytes are too long
unfoldable pub program : List ℕ → List ℕ
program input = cond (ltb 32768 (length input)) (unreadable_line 0) (first (lines input))
