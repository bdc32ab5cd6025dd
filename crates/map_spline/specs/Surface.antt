-- The map that the first three lines give, on either grid, and what it answers to a query. Assumes nothing.
--     row        the floats of line 2
--     samples    those of line 3
use Rattle.std.specs.Prelude.{◌≡◌, Bool, cond, ◌&&◌, List, ℕ, ◌*◌, ◌≤◌, eqb, length, take, drop, Float, Result, Ok, Err}
use Rattle.std.specs.Float.{Format, binary64}
use Rattle.shape.specs.Shape.{size, longest}
use Rattle.shape.specs.Usable.{Usable}
use Rattle.knots.specs.Joined.{total, all_rise}
use Rattle.regular.specs.Fit.{regular_fit}
use Rattle.rectilinear.specs.Fit.{rectilinear_fit}
use Rattle.evaluation.specs.Axes.{query}
use Rattle.evaluation.specs.Spline.{Spline, one_answer, gradient}
use Rattle.regular_map.specs.Map as Regular
use Rattle.regular_map.specs.Records as RegularRecord
use Rattle.regular_blocks.specs.Map.{RegularMap}
use Rattle.regular_blocks.specs.Checks.{any_step_bad, regular}
use Rattle.rectilinear_map.specs.Map as Rectilinear
use Rattle.rectilinear_map.specs.Records as RectilinearRecord
use Rattle.rectilinear_blocks.specs.Map.{RectilinearMap}
use Rattle.rectilinear_blocks.specs.Eval.{rectilinear}
use Rattle.map_fields.specs.Head.{Head}
use Rattle.shape.specs.Below.{any_below}
use Rattle.map_spline.specs.Outside.{axis_outside, regular_outside, rectilinear_outside}
use Rattle.shape.specs.Refusal.{refusal_number}
use Rattle.shape.specs.declared.answers.Refusal.{Refusal}
use Rattle.map_spline.specs.declared.build.Map.{Map}
use Rattle.map_spline.specs.declared.replies.Reply.{Reply}
use Rattle.map_spline.specs.declared.replies.FittedMap.{FittedMap}

-- a map as its queries see it
pub record Surface : Type 0 where
  pub spline : Spline
  -- whether a query is outside
  pub outside : List Float → Bool

-- by a spline, and what each of its axes says of a coordinate
abbrev pub surface_by : Spline → (ℕ → Float → Bool) → Surface
surface_by s on = record { spline = s; outside = λ x. any_below (axis_outside on x) s.axes }

abbrev pub regular_surface : Format → RegularMap → List Float → Surface
regular_surface f m coefs = record { spline = regular f m coefs; outside = regular_outside f m.count m.lens m.starts m.steps }

abbrev pub rectilinear_surface : Format → RectilinearMap → List Float → List Float → Surface
rectilinear_surface f m grid coefs = record { spline = rectilinear f m grid coefs; outside = rectilinear_outside m.count m.lens grid }

-- ---- the map of the first three lines

-- on a regular grid the row is the starts, then the steps; the map is refused with 5 where a step is not above zero
abbrev pub regular_of : Format → Bool → List ℕ → List Float → List Float → Surface
regular_of f linear dims row samples =
    regular_surface f (Regular.made (length dims) dims (take (length dims) row) (drop (length dims) row) linear) (regular_fit f dims samples)

abbrev pub regular_number : List ℕ → List Float → ℕ
regular_number dims row = cond (any_step_bad (drop (length dims) row)) 5 0

-- on a rectilinear one it is the knots of all axes, axis after axis; 5 where those of an axis do not rise
abbrev pub rectilinear_of : Format → Bool → List ℕ → List Float → List Float → Surface
rectilinear_of f linear dims row samples = rectilinear_surface f (Rectilinear.made f (length dims) dims row linear) row (rectilinear_fit f row dims samples)

abbrev pub rectilinear_number : List ℕ → List Float → ℕ
rectilinear_number dims row = cond (all_rise row dims (length dims)) 0 5

-- where the map is refused, its record is blank; by then a regular fit has been made, and a rectilinear one has not
abbrev pub regular_refused : Format → List ℕ → List Float → Surface
regular_refused f dims samples = regular_surface f Regular.blank (regular_fit f dims samples)

abbrev pub rectilinear_refused : Format → List Float → List Float → Surface
rectilinear_refused f row coefs = rectilinear_surface f Rectilinear.blank row coefs

-- by what line 1 says: how many floats line 2 has, M's number, and the map
unfoldable pub row_length : Head → ℕ
row_length h = cond h.regular (2 * length h.dims) (total h.dims)

unfoldable pub map_number : Head → List Float → ℕ
map_number h row = cond h.regular (regular_number h.dims row) (rectilinear_number h.dims row)

unfoldable pub surface : Format → Head → List Float → List Float → Surface
surface f h row samples = cond h.regular (regular_of f h.linear h.dims row samples) (rectilinear_of f h.linear h.dims row samples)

-- what stands in the map's place where it is refused, in coefficients of which the fit may have written none
unfoldable pub refused_surface : Format → Head → List Float → List Float → List Float → Surface
refused_surface f h row samples coefs = cond h.regular (regular_refused f h.dims samples) (rectilinear_refused f row coefs)

-- ---- a query: as many coordinates as there are axes

-- its number, its value, and its gradient by axis
abbrev pub asked_number : Surface → List Float → ℕ
asked_number s x = one_answer s.spline x

abbrev pub asked_value : Surface → List Float → Float
asked_value s x = s.spline.value (query s.spline.axes x 1 0)

abbrev pub asked_gradient : Surface → List Float → List Float
asked_gradient s x = take s.spline.axes (gradient s.spline (query s.spline.axes x 1 0))

-- it counts as outside where it is answered and outside
abbrev pub asked_outside : Surface → List Float → Bool
asked_outside s x = eqb (asked_number s x) 0 && s.outside x

-- ---- what the functions promise

-- the map that a value of the code stands for
abbrev pub surface_of : Map → List Float → List Float → Surface
surface_of (Map.Regular m) row coefs = regular_surface binary64 (RegularRecord.map_of m) coefs
surface_of (Map.Rectilinear m) row coefs = rectilinear_surface binary64 (RectilinearRecord.map_of m) row coefs

abbrev pub surface_in : FittedMap → Surface
surface_in m = surface_of m.map m.row.now m.coeffs.now

-- a call that makes a map: its number, and its map, which is blank where the call is refused
abbrev pub made_number : Result Map Refusal → ℕ
made_number (Ok m) = 0
made_number (Err refusal) = refusal_number refusal

abbrev pub made_surface : Bool → Result Map Refusal → List Float → List Float → Surface
made_surface on_regular (Ok m) row coefs = surface_of m row coefs
made_surface on_regular (Err refusal) row coefs = cond on_regular (regular_surface binary64 Regular.blank coefs) (rectilinear_surface binary64 Rectilinear.blank row coefs)

-- the shape is accepted, and the lengths of the buffers are right
pub record Lent (count : ℕ) (lens : List ℕ) (wanted row samples coefs scratch : ℕ) : Type 0 where
  pub shape : Usable count lens
  pub four : length lens ≡ 4
  pub row_is : row ≡ wanted
  pub samples-are : samples ≡ size (take count lens)
  pub coefs-are : coefs ≡ size (take count lens)
  pub scratch-room : 2 * longest (take count lens) ≤ scratch

-- a map is built, or refused with a number; `refused` is what then stands in its place. Free: scratch, which nobody reads
-- again
pub record MadeFrom (expected : ℕ) (made refused : Surface) (number : ℕ) (s : Surface) : Type 0 where
  pub answers : number ≡ expected
  pub map : s ≡ cond (eqb number 0) made refused

-- the map of the first three lines is, on a regular grid, on a rectilinear one, and on either
abbrev pub RegularMade : Head → List Float → List Float → ℕ → Surface → Type 0
RegularMade h row samples number s =
    MadeFrom (regular_number h.dims row) (regular_of binary64 h.linear h.dims row samples) (regular_refused binary64 h.dims samples) number s

abbrev pub RectilinearMade : Head → List Float → List Float → List Float → ℕ → Surface → Type 0
RectilinearMade h row samples coefs number s =
    MadeFrom (rectilinear_number h.dims row) (rectilinear_of binary64 h.linear h.dims row samples) (rectilinear_refused binary64 row coefs) number s

abbrev pub Makes : Head → List Float → List Float → List Float → ℕ → Surface → Type 0
Makes h row samples coefs number s = MadeFrom (map_number h row) (surface binary64 h row samples) (refused_surface binary64 h row samples coefs) number s

-- a query is answered
pub record Answered (s : Surface) (x : List Float) (reply : Reply) : Type 0 where
  pub accepted : asked_number s x ≡ 0
  pub value_is : reply.value ≡ asked_value s x
  pub gradient-is : reply.parts ≡ gradient s.spline (query s.spline.axes x 1 0)
  pub outside-is : reply.outside ≡ s.outside x

-- or it is refused
abbrev pub Replied : Surface → List Float → Result Reply Refusal → Type 0
Replied s x (Ok reply) = Answered s x reply
Replied s x (Err refusal) = asked_number s x ≡ refusal_number refusal
