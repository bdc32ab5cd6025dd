-- A call that the library answers: from what it says of its map to what the C function says of the map that C hands over.
-- Assumes nothing.
use Rattle.std.specs.Prelude.{Result, Ok, Err}
use Rattle.shape.specs.Refusal.{refusal_number}
use Rattle.evaluation.specs.ByAxis.{ByAxis}
use Rattle.map_calls.specs.Accepted.{AcceptedAs}
use Rattle.regular_blocks.specs.Eval.{regular_axes}
use Rattle.shape.specs.declared.answers.Refusal.{Refusal}
use mathlib.Core.Path.{◌≡◌, refl, sym, ap, subst, ◌∙◌}
use mathlib.Core.Bool.{Bool, true, false, cond}
use mathlib.Core.List.{List, [], ◌∷◌, ◌++◌}
use Prim.Native.Nat.{ℕ, ◌+◌, ◌*◌, ◌≤◌}
use lib.Dec.{eqb}
use lib.ListN.{length, take, get_or}
use lib.Ieee.{Float, Format, nan}
use Rattle.shape.specs.Cells.{put}
use Rattle.shape.specs.declared.Shape.{Shape}
use Rattle.shape.specs.Checks.{Check, refuse, first_refusal, shape_checks, length_check, regular_fit_checks}
use Rattle.shape.proofs.Checks.{length-passes, length-passed}
use Rattle.shape.proofs.Accepted.{prefix-passed, accepted-append, refusal-append}
use Rattle.evaluation.specs.Axes.{query, zeros}
use Rattle.evaluation.specs.Spline.{Spline, gradient, one_answer, OneValue, OneGradient}
use Rattle.evaluation.specs.Batch.{gradient_step}
use Rattle.evaluation.proofs.Outcomes.{gradient-written}
use Rattle.multibspline.specs.Numbers.{f0}
use Rattle.regular_blocks.specs.Map.{RegularMap}
use Rattle.regular_blocks.specs.Checks.{any_step_bad, map_checks, from_values_answer}
use Rattle.capi_parts.specs.Inputs.{lens_of, shape_of, four_from}
use Rattle.capi_parts.specs.Outputs.{Wrote}
use Rattle.capi_parts.specs.Splines.{with_slopes}
use Rattle.capi_parts.specs.Regular.{steps_of, regular_map, grid_ready_checks, regular_checks, fit_checks}
use Rattle.capi_parts.proofs.Guards.{twice, without}

-- ---- what is written only where a call is accepted, on either grid

pub wrote_value : (s : Spline) (x : List Float) {k expected n : ℕ} {v old new : Float} → expected ≡ one_answer s x → OneValue s x k v → Wrote k v old n new
    → Wrote expected (s.value (query s.axes x 1 0)) old n new
wrote_value s x {old = old} e w p = record {
  answers = p.answers ∙ w.answers ∙ sym e;
  leaves = p.leaves ∙ rw (w.valued, w.answers, e) (twice (eqb (one_answer s x) 0) (s.value (query s.axes x 1 0)) f0 old);
}

module _ (s : Spline) (x slopes : List Float) (few : s.axes ≤ 4) (whole : length slopes ≡ s.axes) where
  written : (a : ℕ) {ps : List Float} → ps ≡ cond (eqb a 0) (gradient s (query s.axes x 1 0)) zeros
      → cond (eqb a 0) (put (λ k. k * 1 + 0) (λ k. get_or ps k nan) (length slopes) slopes) slopes ≡ cond (eqb a 0) (gradient_step s x 1 0 slopes) slopes
  written a {ps} e = go (eqb a 0) e
    where
      go : (b : Bool) → ps ≡ cond b (gradient s (query s.axes x 1 0)) zeros
          → cond b (put (λ k. k * 1 + 0) (λ k. get_or ps k nan) (length slopes) slopes) slopes ≡ cond b (gradient_step s x 1 0 slopes) slopes
      go true q = gradient-written s x 1 0 slopes few q (ap (λ (m : ℕ). put (λ k. k * 1 + 0) (λ k. get_or ps k nan) m slopes) whole)
      go false q = refl

  -- the check of the buffer's length passes
  pub sloped : one_answer (with_slopes (length slopes) s) x ≡ one_answer s x
  unfolding one_answer
  sloped = without s.checks (length_check s.axes (length slopes)) _ (length-passes _ s.axes (length slopes) whole)

  pub wrote-gradient : {a n : ℕ} {ps slopes' : List Float} → OneGradient s x a ps
      → Wrote a (put (λ k. k * 1 + 0) (λ k. get_or ps k nan) (length slopes) slopes) slopes n slopes'
      → Wrote (one_answer (with_slopes (length slopes) s) x) (gradient_step s x 1 0 slopes) slopes n slopes'
  wrote-gradient {a} w p =
      let same = w.answers ∙ sym sloped in
      record { answers = p.answers ∙ same; leaves = p.leaves ∙ written a w.gradient ∙ rw same }

-- ---- a regular map, from the parts that the code makes

pub regular-map-is : (dims : List ℕ) (grid : List Float) (linear : Bool) {s : Shape} {starts steps : List Float} → s ≡ shape_of dims → starts ≡ four_from 0 grid → steps ≡ four_from (length dims) grid
    → ◌≡◌ {A = RegularMap} (record { count = s.count; lens = s.dims; starts = starts; steps = steps; linear = linear }) (regular_map dims grid linear)
regular-map-is dims grid linear e b t = rw (e, b, t)

-- ---- a regular map: what is known once its shape and the grid's length are found right

module _ (dims : List ℕ) (grid : List Float) {k : ℕ} (told : k ≡ first_refusal (grid_ready_checks dims grid)) (z : k ≡ 0) where
  ok : first_refusal (grid_ready_checks dims grid) ≡ 0
  ok = sym told ∙ z

  shape-ok : first_refusal (shape_checks (length dims) (lens_of dims)) ≡ 0
  shape-ok = prefix-passed (shape_checks (length dims) (lens_of dims)) _ ok

  pub grid-long : length grid ≡ 2 * length dims
  grid-long = (length-passed [] (2 * length dims) (length grid) (sym (accepted-append (length dims) (lens_of dims) shape-ok (length_check (2 * length dims) (length grid))) ∙ ok)).0

-- ---- a regular map: the check of the grid's length passes

module _ (dims : List ℕ) (grid : List Float) (long : length grid ≡ 2 * length dims) where
  dropped : (after : List Check) → first_refusal (grid_ready_checks dims grid ++ after) ≡ first_refusal (shape_checks (length dims) (lens_of dims) ++ after)
  dropped after = without (shape_checks (length dims) (lens_of dims)) (length_check (2 * length dims) (length grid)) after (length-passes after (2 * length dims) (length grid) long)

  -- accepting the record is accepting the map
  pub regular-accepted : {linear : Bool} (m : RegularMap) → m ≡ regular_map dims grid linear → {M : Type 0} (f : Format) (view : M → ByAxis) (coefs : ℕ) (r : Result M Refusal)
      → AcceptedAs view (map_checks m.count m.lens m.steps coefs) (regular_axes f m) coefs r → AcceptedAs view (regular_checks dims grid coefs) (regular_axes f (regular_map dims grid linear)) coefs r
  regular-accepted {linear} m e {M} f view coefs r w = go r (subst (λ (m : RegularMap). AcceptedAs view (map_checks m.count m.lens m.steps coefs) (regular_axes f m) coefs r) e w)
    where
      go : (r : Result M Refusal) → AcceptedAs view (map_checks (length dims) (lens_of dims) (steps_of dims grid) coefs) (regular_axes f (regular_map dims grid linear)) coefs r
          → AcceptedAs view (regular_checks dims grid coefs) (regular_axes f (regular_map dims grid linear)) coefs r
      go (Ok m) w = (dropped _ ∙ w.0, w.1)
      go (Err refusal) w = w ∙ sym (dropped _)

-- a refusal by the shape or the grid's length is the map's
pub grid-told : (dims : List ℕ) (grid : List Float) (coefs : ℕ) (r : Refusal) → refusal_number r ≡ first_refusal (grid_ready_checks dims grid) → refusal_number r ≡ first_refusal (regular_checks dims grid coefs)
grid-told dims grid coefs r e = refusal-append r (grid_ready_checks dims grid) _ e

-- ---- building from samples

module _ (dims : List ℕ) (grid : List Float) {k : ℕ} (told : k ≡ first_refusal (grid_ready_checks dims grid)) (z : k ≡ 0) (samples coefs scratch : ℕ) where
  pub fit-dropped : first_refusal (fit_checks dims grid samples coefs scratch) ≡ first_refusal (regular_fit_checks (length dims) (lens_of dims) samples coefs scratch)
  unfolding regular_fit_checks
  fit-dropped = dropped dims grid (grid-long dims grid told z) _

  pub values-dropped : first_refusal (fit_checks dims grid samples coefs scratch ++ refuse 5 (any_step_bad (take (length dims) (steps_of dims grid))) ∷ [])
      ≡ from_values_answer (length dims) (lens_of dims) (steps_of dims grid) samples coefs scratch
  unfolding regular_fit_checks from_values_answer
  values-dropped = dropped dims grid (grid-long dims grid told z) _
