-- Demand 1 for the calls on a rectilinear map. Assumes nothing.
use mathlib.Core.Path.{◌≡◌}
use mathlib.Core.List.{List}
use Prim.Native.Nat.{ℕ}
use lib.ListN.{length, take}
use lib.Ieee.{Float}
use Rattle.shape.specs.Shape.{size}
use Rattle.shape.proofs.Outcome.{Tests, none, shape-test, length-test}
use Rattle.shape.proofs.Outcome as Outcome
use Rattle.knots.specs.Joined.{total}
use Rattle.rectilinear.proofs.Total.{knots-test}
use Rattle.evaluation.proofs.Total.{evaluation-total}
use Rattle.evaluation.proofs.Placing.{axis-test}
use Rattle.rectilinear_blocks.specs.Eval.{grid_answer, map_checks, map_answer, rectilinear}
use Rattle.rectilinear_blocks.proofs.Figures.{answers-all}
use Rattle.rectilinear_map.specs.Total.{map_conditions, HasPlace, GridTotal, MapTotal, RectilinearTotal, PlaceTotal}
use Rattle.rectilinear_map.specs.Laws.{numbered}

pub map-tests : (count : ℕ) (lens : List ℕ) (grid : List Float) (coefs : ℕ) → length lens ≡ 4 → Tests (map_checks count lens grid coefs) (map_conditions count lens grid coefs)
map-tests count lens grid coefs four =
    shape-test count lens four (λ u.
    length-test (total (take count lens)) (length grid) (λ _.
    length-test (size (take count lens)) coefs (λ _.
    knots-test count lens grid four u (λ _. none))))

pub grid-total : GridTotal
unfolding grid_answer
grid-total count lens grid four = Outcome.total (shape-test count lens four (λ _. length-test (total (take count lens)) (length grid) (λ _. none)))

pub map-total : MapTotal
unfolding map_answer
map-total count lens grid coefs four = Outcome.total (map-tests count lens grid coefs four)

pub place-total : PlaceTotal
place-total count lens grid a four =
    Outcome.total
    (shape-test count lens four (λ u.
    length-test (total (take count lens)) (length grid) (λ _.
    knots-test count lens grid four u (λ _.
    axis-test count a none))))

pub rectilinear-total : RectilinearTotal
rectilinear-total f m grid coefs four =
    evaluation-total (rectilinear f m grid coefs) (map_conditions m.count m.lens grid (length coefs)) HasPlace
    (map-tests m.count m.lens grid (length coefs) four) (numbered m.count m.lens grid (length coefs)) (λ x. ((λ _. tt), (λ _. answers-all f m grid x)))
