-- The query lines, one after the other. Assumes nothing.
use mathlib.Core.Path.{◌≡◌, refl, sym, ap, ◌∙◌}
use mathlib.Core.Bool.{Bool, true, false}
use mathlib.Core.List.{List, [], ◌∷◌, ◌++◌, append_assoc}
use Prim.Native.Nat.{ℕ, ◌+◌, ◌*◌, ◌≤◌}
use native.Mathlib.Nat.{min-le_left}
use native.Mathlib.Omega.{arith}
use lib.ListN.{length, length-take}
use Rattle.evaluation.specs.Axes.{query}
use Rattle.evaluation.specs.Spline.{gradient}
use Rattle.std.specs.Prelude.{Some, None}
use Rattle.map_fields.specs.Fields.{fields, floats_in, row_in, rest, room_of}
use Rattle.map_fields.proofs.FloatRows.{row-long}
use Rattle.map_print.specs.Print.{Wrote, unreadable_line, total_line}
use Rattle.map_print.proofs.Printing.{grown, length-answer}
use Rattle.map_spline.specs.Surface.{Surface, asked_number, asked_value, asked_gradient}
use Rattle.map_work.specs.Program.{one_if, answer, queries}
use Rattle.map_work.specs.Steps.{Ready, Answered}

-- of the query lines `start`, those of `left` are still to be read; what was printed is `now`, on a page of `most`
pub record Asking (s : Surface) (start : List (List ℕ)) (old : List ℕ) (left : List (List ℕ)) (now : List ℕ) (asked outside most : ℕ) : Type 0 where
  pub room : length now + 3 * room_of left + 128 ≤ most
  pub few : asked + room_of left ≤ 32771
  pub part : outside ≤ asked
  pub text : now ++ queries s asked outside left ≡ old ++ queries s 0 0 start

pub Asking-start : (s : Surface) (ls : List (List ℕ)) (old : List ℕ) (axes most : ℕ) → Ready ls axes (length old) most → Asking s ls old ls old 0 0 most
Asking-start s ls old axes most r = record { room = r.room; few = omega (arith, r.short); part = omega arith; text = refl }

module _ (s : Surface) (start : List (List ℕ)) (old : List ℕ) (left : List (List ℕ)) (now : List ℕ) (asked outside most : ℕ) (h : Asking s start old left now asked outside most) where
  module _ (line : List ℕ) (next : List (List ℕ)) (e : left ≡ line ∷ next) where
    module _ (new : List ℕ) where
      pub Asking-step : (side : Bool) (axes : ℕ) → axes ≡ s.spline.axes → 1 ≤ axes → axes ≤ 4 → (r : ℕ) → r ≡ outside + one_if side → Answered line s now side new
          → Asking s start old next new (asked + 1) r most
      unfolding queries room_of row_in rest
      Asking-step side axes same one four r w a =
          let long : 17 * s.spline.axes + room_of next ≤ room_of left = go left e a.read in
          let n = grown a.text in
          record {
            room = omega (arith, h.room, long, n, size, one, same);
            few = omega (arith, h.few, long, one, same);
            part = part side w;
            text =
                rw (a.text.text, append_assoc, w, a.side)
                (sym (ap (λ (t : List ℕ). now ++ t) (ap (queries s asked outside) e ∙ rw a.read)) ∙ h.text);
          }
        where
          part : (b : Bool) → r ≡ outside + one_if b → r ≤ asked + 1
          part true q = omega (arith, h.part, q)
          part false q = omega (arith, h.part, q)

          size : length (answer s a.x) ≤ 21 + 17 * s.spline.axes
          size =
              let g = gradient s.spline (query s.spline.axes a.x 1 0) in
              omega (arith, length-answer (asked_number s a.x) (asked_value s a.x) (asked_gradient s a.x), length-take s.spline.axes g, min-le_left s.spline.axes (length g))

          go : (ls : List (List ℕ)) → ls ≡ line ∷ next → floats_in s.spline.axes (fields line) ≡ Some a.x → 17 * s.spline.axes + room_of next ≤ room_of ls
          go ls q f = rw q (row-long s.spline.axes (line ∷ next) a.x f)

    pub Asking-bad : (floats_in s.spline.axes (fields line) ≡ None) → (new last : List ℕ) → new ≡ now → Wrote new (unreadable_line (asked + 4)) last → Wrote old (queries s 0 0 start) last
    unfolding queries
    Asking-bad f new last same w = record { text = w.text ∙ rw same (sym (ap (λ (t : List ℕ). now ++ t) (ap (queries s asked outside) e ∙ rw f)) ∙ h.text) }

  pub Asking-done : left ≡ [] → (last : List ℕ) → Wrote now (total_line asked outside) last → Wrote old (queries s 0 0 start) last
  unfolding queries
  Asking-done e last w = record { text = w.text ∙ sym (ap (λ (t : List ℕ). now ++ t) (ap (queries s asked outside) e)) ∙ h.text }
