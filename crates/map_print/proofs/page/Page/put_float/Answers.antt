use mathlib.Core.Path.{refl, ap}
use mathlib.Core.List.{List, ◌∷◌}
use Prim.Native.Nat.{ℕ}
use Rattle.map_print.proofs.Printing.{Wrote-then, Wrote-as, text-written}
use Rattle.map_print.proofs.page.Page.put_float.Goals as goal

pub returns : goal.returns
returns _ c = Wrote-as (ap (λ (t : List ℕ). 44 ∷ t) (text-written _ _ _ _ refl c.write_float.ensures)) (Wrote-then c.push.ensures c.extend.ensures)
