-- What a query's answers give. Assumes nothing.
use mathlib.Core.Path.{◌≡◌, sym}
use mathlib.Core.List.{List}
use native.Mathlib.Omega.{arith}
use lib.ListN.{length}
use lib.Ieee.{Float, binary64}
use Rattle.std.proofs.Common.{rules}
use Rattle.std.specs.Prelude.{Result, Ok, Err, IfOk}
use Rattle.multibspline.specs.Numbers.{f0}
use Rattle.shape.specs.Refusal.{refusal_number, answer_number, answer_or}
use Rattle.shape.specs.declared.answers.Refusal.{Refusal}
use Rattle.shape.specs.Checks.{first_refusal}
use Rattle.shape.proofs.Accepted.{refusal-suc}
use Rattle.evaluation.specs.Spline.{OneValue, OneGradient}
use Rattle.evaluation.proofs.Total.{one-accepted}
use Rattle.regular_blocks.specs.Map.{RegularMap}
use Rattle.regular_blocks.specs.Checks.{regular}
use Rattle.regular_map.specs.Place.{record_checks}
use Rattle.regular_map.specs.Laws as Regular
use Rattle.regular_map.proofs.Placing.{map-record}
use Rattle.rectilinear_blocks.specs.Map.{RectilinearMap}
use Rattle.rectilinear_blocks.specs.Eval.{rectilinear}
use Rattle.rectilinear_map.specs.Place.{grid_checks}
use Rattle.rectilinear_map.specs.Laws as Rectilinear
use Rattle.rectilinear_map.proofs.Placing.{map-grid}
use Rattle.map_spline.specs.Surface.{Surface, asked_number, Answered}
use Rattle.map_spline.specs.declared.replies.Reply.{Reply}

pub replied : (s : Surface) (x : List Float) (reply : Reply) → OneValue s.spline x 0 reply.value → OneGradient s.spline x 0 reply.parts → reply.outside ≡ s.outside x → Answered s x reply
replied s x reply v g o = record { accepted = sym v.answers; value_is = v.valued; gradient-is = g.gradient; outside-is = o }

pub refused-number : (s : Surface) (x : List Float) (refusal : Refusal) → asked_number s x ≡ refusal_number refusal → asked_number s x ≡ 0 → ⊥
refused-number s x refusal e z = let above = refusal-suc refusal in omega (arith, e, z, above)

-- what an answered query says of the map, whose checks have passed, and of its length
pub regular-asked : (m : RegularMap) (coefs x : List Float) (value : Float) → OneValue (regular binary64 m coefs) x 0 value
    → (first_refusal (record_checks m.count m.lens m.steps) ≡ 0) × (length x ≡ m.count)
regular-asked m coefs x value h =
    let w = one-accepted (regular binary64 m coefs) (Regular.numbered m.count m.lens m.steps (length coefs)) x (sym h.answers) in
    (map-record m.count m.lens m.steps (length coefs) w.0, w.1)

pub rectilinear-asked : (m : RectilinearMap) (grid coefs x : List Float) (value : Float) → OneValue (rectilinear binary64 m grid coefs) x 0 value
    → (first_refusal (grid_checks m.count m.lens grid) ≡ 0) × (length x ≡ m.count)
rectilinear-asked m grid coefs x value h =
    let w = one-accepted (rectilinear binary64 m grid coefs) (Rectilinear.numbered m.count m.lens grid (length coefs)) x (sym h.answers) in
    (map-grid m.count m.lens grid (length coefs) w.0, w.1)

-- the same of whatever the query answers
pub regular-accepted : (m : RegularMap) (coefs x : List Float) (r : Result Float Refusal) → OneValue (regular binary64 m coefs) x (answer_number r) (answer_or f0 r)
    → IfOk r (λ v. (first_refusal (record_checks m.count m.lens m.steps) ≡ 0) × (length x ≡ m.count))
regular-accepted m coefs x (Ok value) h = regular-asked m coefs x value h
regular-accepted m coefs x (Err refusal) h = search rules

pub rectilinear-accepted : (m : RectilinearMap) (grid coefs x : List Float) (r : Result Float Refusal) → OneValue (rectilinear binary64 m grid coefs) x (answer_number r) (answer_or f0 r)
    → IfOk r (λ v. (first_refusal (grid_checks m.count m.lens grid) ≡ 0) × (length x ≡ m.count))
rectilinear-accepted m grid coefs x (Ok value) h = rectilinear-asked m grid coefs x value h
rectilinear-accepted m grid coefs x (Err refusal) h = search rules
