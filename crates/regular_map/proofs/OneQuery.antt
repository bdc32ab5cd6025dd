-- A single query on a regular map, axis after axis: one axis more, and the value on the last. For every format. Assumes nothing.
use Rattle.std.proofs.Common.{◌≡◌, refl, sym, true, List, [], ◌∷◌, ◌++◌, ℕ, ◌+◌, ◌*◌, ◌≤◌, length, get_or, take, Float, arith}
use Rattle.std.specs.Float.{Format, nan, binary64}
use lib.Arith.{lt_of_le-ne}
use Rattle.shape.specs.Checks.{most_points}
use Rattle.shape.specs.Shape.{size}
use Rattle.interp_math.specs.Sum.{summed}
use Rattle.multibspline.specs.Numbers.{f0}
use Rattle.evaluation.specs.Axes.{query}
use Rattle.evaluation.specs.Axis.{OneAxis, AxisOf, FoundAt}
use Rattle.evaluation.specs.Entries.{Answered}
use Rattle.evaluation.proofs.OneQuery.{one-start, one-refused, one-next, one-small, by_one, one-reaches, one_value}
use Rattle.block_sums.specs.Sums.{Summable}
use Rattle.regular_blocks.specs.Checks.{regular}
use Rattle.regular_blocks.specs.Eval.{regular_axes}
use Rattle.regular_blocks.specs.Records.{map_of}
use Rattle.regular_blocks.specs.declared.grid.Grid.{Grid}
use Rattle.regular_map.specs.OneQuery.{LookedAt, PlacedOn}

pub looked-start : (f : Format) (g : Grid) (coefs xs : List Float) → length coefs ≡ size (take g.count g.dims) → g.count ≤ length xs → LookedAt f g coefs xs 0 0 []
looked-start f g coefs xs sized coordinates =
    record { sized = sized; coordinates = coordinates; more = g.ready.shape.some-axis; so_far = one-start (regular_axes f (map_of g)) g.ready xs }

module _ (f : Format) {g : Grid} {coefs xs : List Float} {a first : ℕ} {rows : List (List Float)} (w : LookedAt f g coefs xs a first rows) {axis : OneAxis} (is : AxisOf (regular_axes f (map_of g)) a axis) where
  pub looked-refused : axis.no_place (get_or xs a nan) ≡ true → Answered (regular f (map_of g) coefs) (query g.count xs 1 0) 6 f0
  looked-refused none = one-refused (regular_axes f (map_of g)) g.ready xs w.so_far w.more is none f _ coefs

  module _ {origin : ℕ} (found : FoundAt axis (get_or xs a nan) origin) {row : List Float} (er : row ≡ axis.weights (get_or xs a nan)) where
    pub looked-small : first + origin * get_or g.strides a 0 ≤ most_points
    looked-small = one-small (regular_axes f (map_of g)) g.ready xs w.so_far w.more is found er

    -- it is not the last
    pub looked-on : (g.count ≡ a + 1 → ⊥) → {next : ℕ} → next ≡ first + origin * get_or g.strides a 0 → LookedAt f g coefs xs (a + 1) next (rows ++ row ∷ [])
    looked-on other e =
        record {
          sized = w.sized;
          coordinates = w.coordinates;
          more = lt_of_le-ne (omega (arith, w.more)) (λ q. other (sym q));
          so_far = one-next (regular_axes f (map_of g)) g.ready xs w.so_far w.more is found er e;
        }

    -- it is the last
    module _ (last : g.count ≡ a + 1) {next : ℕ} (e : next ≡ first + origin) where
      pub last-summable : Summable g.count g.strides coefs next
      last-summable =
          record {
            some = g.ready.shape.some-axis;
            few = g.ready.shape.at-most-four;
            last = by_one (regular_axes f (map_of g)) g.ready xs w.so_far w.more is found er last e;
            within = one-reaches (regular_axes f (map_of g)) g.ready xs w.so_far w.more is found er last e w.sized;
          }

      pub last-value : (rest : List (List Float)) → length ((rows ++ row ∷ []) ++ rest) ≡ 4 → {v : Float} → v ≡ summed f coefs g.strides ((rows ++ row ∷ []) ++ rest) g.count next
          → Answered (regular f (map_of g) coefs) (query g.count xs 1 0) 0 v
      last-value rest four ev = one_value (regular_axes f (map_of g)) g.ready xs w.so_far w.more is found er last e f _ coefs rest four ev

-- ---- by what was found on an axis

module _ {g : Grid} {coefs xs : List Float} where
  -- after the first
  pub second : LookedAt binary64 g coefs xs 0 0 [] → {origin : ℕ} {row : List Float} → PlacedOn (regular_axes binary64 (map_of g)) 0 (get_or xs 0 nan) origin row → (g.count ≡ 1 → ⊥)
      → LookedAt binary64 g coefs xs 1 (origin * get_or g.strides 0 0) (row ∷ [])
  second w p other = looked-on binary64 w p.is p.found p.weighed other (omega arith)

  -- after another
  pub next : {a first : ℕ} {rows : List (List Float)} → LookedAt binary64 g coefs xs a first rows
      → {origin : ℕ} {row : List Float} → PlacedOn (regular_axes binary64 (map_of g)) a (get_or xs a nan) origin row → (g.count ≡ a + 1 → ⊥)
      → LookedAt binary64 g coefs xs (a + 1) (first + origin * get_or g.strides a 0) (rows ++ row ∷ [])
  next w p other = looked-on binary64 w p.is p.found p.weighed other refl
