use mathlib.Core.Path.{◌≡◌, sym, ap, ◌∙◌}
use Prim.Native.Nat.{ℕ}
use mathlib.Core.List.{List}
use Rattle.map_fields.specs.Fields.{floats_in}
use Rattle.map_fields.proofs.FloatRows.{Floating-short, Floating-bad, Floating-step, Floating-over, Floating-done}
use Rattle.map_fields.proofs.rows.read_floats.Goals as goal

-- what is known of the fields of the line, by the iterator over them
from {ℓ} : {X : Type ℓ} {n : ℕ} {ps qs : List (List ℕ)} {o : X} (f : ℕ → List (List ℕ) → X) → ps ≡ qs → f n ps ≡ o → f n qs ≡ o
from {n = n} f e h = sym (ap (f n) e) ∙ h

pub returns-in_err-next : goal.returns-in_err-next
returns-in_err-next c = rw c.from_residual.ensures (from floats_in c.new-fields.ensures (Floating-short _ _ _ _ _ c.loop-x.invariant c.loop-x-test.true c.in_err-next.ensures.steps.0))

pub returns-in_err-x : goal.returns-in_err-x
returns-in_err-x c =
    rw c.from_residual-in_err-x.ensures
    (from floats_in c.new-fields.ensures
    (Floating-bad _ _ _ _ _ c.loop-x.invariant c.loop-x-test.true _ _ c.in_ok-next.ensures.steps (sym c.read_float.ensures ∙ c.in_err-x.was)))

pub loop-x-preserved : goal.loop-x-preserved
loop-x-preserved c = Floating-step _ _ _ _ _ c.loop-x.invariant c.loop-x-test.true _ _ c.in_ok-next.ensures.steps _ (sym c.read_float.ensures ∙ c.in_ok-x.was)

pub returns-in-Some : goal.returns-in-Some
returns-in-Some c = from floats_in c.new-fields.ensures (Floating-over _ _ _ _ _ c.loop-x.invariant c.loop-x-test.false _ _ c.in-Some.ensures.steps)

pub returns-in-None : goal.returns-in-None
returns-in-None c = from floats_in c.new-fields.ensures (Floating-done _ _ _ _ _ c.loop-x.invariant c.loop-x-test.false c.in-None.ensures.steps.0)
