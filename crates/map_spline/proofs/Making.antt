-- The map of the first three lines is the one that the library builds. Assumes nothing.
use mathlib.Core.Path.{◌≡◌, refl, sym, ap, ap₂, subst, ◌∙◌}
use mathlib.Core.Bool.{Bool, true, false, cond}
use mathlib.Core.List.{List}
use Prim.Native.Nat.{ℕ, ◌*◌, ◌≤◌}
use native.Mathlib.Omega.{arith}
use lib.Dec.{eqb}
use lib.ListN.{length, take, drop, length-drop}
use lib.Seq.{get_or-take, take-take}
use lib.Ieee.{Float, binary64}
use borrow.Author.Tests.{eq-eqb, ne_eqb}
use Rattle.std.specs.Prelude.{Result, Ok, Err}
use Rattle.regular_map.specs.declared.record.MultiBsplineRegular.{MultiBsplineRegular}
use Rattle.rectilinear_map.specs.declared.record.MultiBsplineRectilinear.{MultiBsplineRectilinear}
use Rattle.shape.specs.Refusal.{refusal_number, answer_number}
use Rattle.shape.specs.declared.answers.Refusal.{Refusal}
use Rattle.shape.specs.Checks.{first_refusal, shape_checks, regular_fit_checks}
use Rattle.shape.specs.Fit.{Fitted, FitLeaves}
use Rattle.shape.proofs.Accepted.{usable-accepted, axes-are, refusal-suc}
use Rattle.knots.specs.Joined.{total, all_rise}
use Rattle.evaluation.specs.Axes.{in_use, query}
use Rattle.evaluation.specs.Built.{BuiltFrom}
use Rattle.regular.specs.Fit.{regular_fit}
use Rattle.regular.proofs.FitChecks as RegularFit
use Rattle.regular_map.specs.Map as Regular
use Rattle.regular_blocks.specs.Map.{RegularMap}
use Rattle.regular_blocks.specs.Checks.{any_step_bad, from_values_answer}
use Rattle.regular_map.proofs.Steps.{map_steps}
use Rattle.regular_map.proofs.Builds.{values-passed}
use Rattle.rectilinear.specs.Fit.{rectilinear_fit, rectilinear_fit_checks}
use Rattle.rectilinear.proofs.FitChecks as RectilinearFit
use Rattle.rectilinear_map.specs.Map as Rectilinear
use Rattle.regular_map.specs.Records as RegularRecord
use Rattle.rectilinear_map.specs.Records as RectilinearRecord
use Rattle.rectilinear_blocks.specs.Map.{RectilinearMap}
use Rattle.map_fields.specs.Records.{head_of}
use Rattle.map_fields.specs.declared.head.FirstLine.{FirstLine}
use Rattle.map_spline.specs.declared.build.Map.{Map}
use Rattle.map_spline.specs.Surface.{Surface, regular_surface, rectilinear_surface, regular_of, rectilinear_of, regular_refused, rectilinear_refused, regular_number, rectilinear_number, row_length, map_number, surface, refused_surface, made_number, made_surface, Lent, MadeFrom, RegularMade, RectilinearMade, Makes}
use Rattle.map_spline.proofs.Axes.{in_use_lem, query-in-use, query-take}

-- the second of two, where a call is refused
if-refused : {A : Type 0} (refusal : Refusal) (a b : A) → b ≡ cond (eqb (refusal_number refusal) 0) a b
if-refused refusal a b = let above = refusal-suc refusal in rw (ne_eqb (refusal_number refusal) 0 (λ z. omega (arith, above, z)))

-- the map that an accepted call hands out
handed-is : {R M : Type 0} {map_of : R → M} {expected : ℕ} {made : M} {built : Result R Refusal} {m : R} → built ≡ Ok m → BuiltFrom map_of expected made built → map_of m ≡ made
handed-is {R} {M} {map_of} {expected} {made} {built} {m} e b = (subst (λ (r : Result R Refusal). BuiltFrom map_of expected made r) e b).handed

module _ (linear : Bool) (count : ℕ) (lens : List ℕ) (row samples coefs scratch : List Float) (wanted : ℕ)
    (l : Lent count lens wanted (length row) (length samples) (length coefs) (length scratch)) where
  abbrev four : length lens ≡ 4
  four = l.four

  ok : first_refusal (shape_checks count lens) ≡ 0
  ok = usable-accepted count lens four l.shape

  axes : length (take count lens) ≡ count
  axes = axes-are count lens four l.shape

  lens-used : in_use 0 0 count lens ≡ in_use 0 0 count (take count lens)
  lens-used = in_use_lem 0 0 count lens (take count lens) (λ a h. sym (get_or-take count lens a 0 h))

  -- ---- regular

  fits : ◌≡◌ {A = ℕ} 0 (first_refusal (regular_fit_checks count lens (length samples) (length coefs) (length scratch)))
  fits =
      sym (RegularFit.fit_passed count lens (length samples) (length coefs) (length scratch) ok l.coefs-are l.samples-are l.scratch-room)

  module _ (half : wanted ≡ 2 * count) (starts steps : List Float) (es : starts ≡ query count (take count row) 1 0) (et : steps ≡ query count (drop count row) 1 0) where
    few : count ≤ 4
    few = l.shape.at-most-four

    long : length row ≡ 2 * count
    long = l.row_is ∙ half

    steps-are : take count steps ≡ drop count row
    steps-are = ap (take count) et ∙ query-take count (drop count row) few (rw length-drop (omega (arith, long)))

    number : from_values_answer count lens steps (length samples) (length coefs) (length scratch) ≡ regular_number (take count lens) row
    number =
        values-passed count lens steps (length samples) (length coefs) (length scratch) four fits
        ∙ map_steps count lens steps (length coefs) ok l.coefs-are (ap any_step_bad (sym steps-are))
        ∙ rw axes

    same_map : Regular.made count lens starts steps linear ≡ Regular.made (length (take count lens)) (take count lens) (take (length (take count lens)) row) (drop (length (take count lens)) row) linear
    unfolding Regular.made
    same_map = rw (axes, lens-used, es, et, query-in-use count (take count row) few, query-in-use count (drop count row) few)

    module _ (built : Result MultiBsplineRegular Refusal) (coefs' scratch' left : List Float)
        (b : BuiltFrom RegularRecord.map_of (from_values_answer count lens steps (length samples) (length coefs) (length scratch)) (Regular.made count lens starts steps linear) built)
        (w : FitLeaves (first_refusal (regular_fit_checks count lens (length samples) (length coefs) (length scratch))) (regular_fit binary64 (take count lens) samples) left coefs scratch coefs' scratch') where
      fitted : coefs' ≡ regular_fit binary64 (take count lens) samples
      fitted = w.coefficients ∙ ap (λ (t : Bool). cond t (regular_fit binary64 (take count lens) samples) coefs) (eq-eqb _ 0 (sym fits))

      pub regular-made : (m : MultiBsplineRegular) → built ≡ Ok m
          → MadeFrom (regular_number (take count lens) row) (regular_of binary64 linear (take count lens) row samples) (regular_refused binary64 (take count lens) samples) 0 (regular_surface binary64 (RegularRecord.map_of m) coefs')
      regular-made m told = record {
        answers = sym (ap answer_number told) ∙ b.answers ∙ number;
        map = ap₂ (λ (m : RegularMap) (cs : List Float). regular_surface binary64 m cs) (handed-is told b ∙ same_map) fitted;
      }

      pub regular-not : (refusal : Refusal) → built ≡ Err refusal
          → MadeFrom (regular_number (take count lens) row) (regular_of binary64 linear (take count lens) row samples) (regular_refused binary64 (take count lens) samples) (refusal_number refusal) (regular_surface binary64 Regular.blank coefs')
      regular-not refusal told = record {
        answers = sym (ap answer_number told) ∙ b.answers ∙ number;
        map = ap (regular_surface binary64 Regular.blank) fitted ∙ if-refused refusal _ _;
      }

  -- ---- rectilinear

  module _ (joined : wanted ≡ total (take count lens)) where
    number_of : first_refusal (rectilinear_fit_checks count lens row (length samples) (length coefs) (length scratch)) ≡ rectilinear_number (take count lens) row
    number_of = go (all_rise row (take count lens) count) refl
      where
        go : (t : Bool) → t ≡ all_rise row (take count lens) count → first_refusal (rectilinear_fit_checks count lens row (length samples) (length coefs) (length scratch)) ≡ rectilinear_number (take count lens) row
        go true e =
            RectilinearFit.fit_passed count lens row (length samples) (length coefs) (length scratch) ok (l.row_is ∙ joined) l.coefs-are e axes refl l.samples-are l.scratch-room
            ∙ rw (axes, ← e)
        go false e =
            sym (RectilinearFit.fit-knots count lens row (length samples) (length coefs) (length scratch) ok (l.row_is ∙ joined) l.coefs-are e axes refl)
            ∙ rw (axes, ← e)

    rectilinear-is : Rectilinear.made binary64 count lens row linear ≡ Rectilinear.made binary64 (length (take count lens)) (take count lens) row linear
    unfolding Rectilinear.made Rectilinear.low_ghosts Rectilinear.high_ghosts
    rectilinear-is = rw (axes, lens-used, take-take count count lens (omega arith))

    module _ (built : Result MultiBsplineRectilinear Refusal) (coefs' scratch' left : List Float) (answer : ℕ)
        (b : BuiltFrom RectilinearRecord.map_of (first_refusal (rectilinear_fit_checks count lens row (length samples) (length coefs) (length scratch))) (Rectilinear.made binary64 count lens row linear) built)
        (w : Fitted (first_refusal (rectilinear_fit_checks count lens row (length samples) (length coefs) (length scratch))) (rectilinear_fit binary64 row (take count lens) samples) left coefs scratch answer coefs' scratch') where
      left-in : coefs' ≡ cond (eqb (answer_number built) 0) (rectilinear_fit binary64 row (take count lens) samples) coefs
      left-in = w.leaves.coefficients ∙ ap (λ (n : ℕ). cond (eqb n 0) (rectilinear_fit binary64 row (take count lens) samples) coefs) (sym b.answers)

      pub rectilinear-made : (m : MultiBsplineRectilinear) → built ≡ Ok m
          → MadeFrom (rectilinear_number (take count lens) row) (rectilinear_of binary64 linear (take count lens) row samples) (rectilinear_refused binary64 row coefs) 0 (rectilinear_surface binary64 (RectilinearRecord.map_of m) row coefs')
      rectilinear-made m told = record {
        answers = sym (ap answer_number told) ∙ b.answers ∙ number_of;
        map =
            ap₂ (λ (m : RectilinearMap) (cs : List Float). rectilinear_surface binary64 m row cs) (handed-is told b ∙ rectilinear-is)
            (left-in ∙ ap (λ (n : ℕ). cond (eqb n 0) (rectilinear_fit binary64 row (take count lens) samples) coefs) (ap answer_number told));
      }

      pub rectilinear-not : (refusal : Refusal) → built ≡ Err refusal
          → MadeFrom (rectilinear_number (take count lens) row) (rectilinear_of binary64 linear (take count lens) row samples) (rectilinear_refused binary64 row coefs) (refusal_number refusal) (rectilinear_surface binary64 Rectilinear.blank row coefs')
      rectilinear-not refusal told = record {
        answers = sym (ap answer_number told) ∙ b.answers ∙ number_of;
        map =
            ap (rectilinear_surface binary64 Rectilinear.blank row)
            (left-in ∙ ap (λ (n : ℕ). cond (eqb n 0) (rectilinear_fit binary64 row (take count lens) samples) coefs) (ap answer_number told) ∙ sym (if-refused refusal _ _))
            ∙ if-refused refusal _ _;
      }

-- ---- either grid

-- the room that the workspace has
pub lent-room : {count : ℕ} {lens : List ℕ} {wanted row samples coefs room room' : ℕ} → room ≡ room' → Lent count lens wanted row samples coefs room
    → Lent count lens wanted row samples coefs room'
lent-room e l = record { shape = l.shape; four = l.four; row_is = l.row_is; samples-are = l.samples-are; coefs-are = l.coefs-are; scratch-room = rw (← e) l.scratch-room }

lent_at : {count : ℕ} {lens : List ℕ} {wanted wanted' row samples coefs scratch : ℕ} → wanted ≡ wanted' → Lent count lens wanted row samples coefs scratch
    → Lent count lens wanted' row samples coefs scratch
lent_at e l = record { shape = l.shape; four = l.four; row_is = l.row_is ∙ e; samples-are = l.samples-are; coefs-are = l.coefs-are; scratch-room = l.scratch-room }

module _ (line : FirstLine) (row samples coefs : ℕ) (l : Lent line.count line.dims (row_length (head_of line)) row samples coefs 1024) where
  pub lent-regular : line.regular ≡ true → Lent line.count line.dims (2 * line.count) row samples coefs 1024
  unfolding row_length
  lent-regular t = lent_at (rw (t, axes-are line.count line.dims l.four l.shape)) l

  pub lent-rectilinear : line.regular ≡ false → Lent line.count line.dims (total (take line.count line.dims)) row samples coefs 1024
  unfolding row_length
  lent-rectilinear t = lent_at (rw t) l

module _ (line : FirstLine) (row samples coefs coefs' : List Float) (r : Result Map Refusal) where
  pub makes-regular : line.regular ≡ true → RegularMade (head_of line) row samples (made_number r) (made_surface true r row coefs')
      → Makes (head_of line) row samples coefs (made_number r) (made_surface line.regular r row coefs')
  unfolding map_number surface refused_surface
  makes-regular t h = rw t h

  pub makes-rectilinear : line.regular ≡ false → RectilinearMade (head_of line) row samples coefs (made_number r) (made_surface false r row coefs')
      → Makes (head_of line) row samples coefs (made_number r) (made_surface line.regular r row coefs')
  unfolding map_number surface refused_surface
  makes-rectilinear t h = rw t h

-- a map that is not refused
pub made-is : {expected : ℕ} {made refused : Surface} {s : Surface} → MadeFrom expected made refused 0 s → s ≡ made
made-is h = h.map
