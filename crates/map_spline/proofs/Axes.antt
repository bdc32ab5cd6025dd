-- Entries and tests axis by axis. Assumes nothing.
use mathlib.Core.Path.{◌≡◌, refl, sym, ap, ◌∙◌}
use mathlib.Core.Bool.{Bool, true, false, cond}
use mathlib.Core.List.{List}
use Prim.Native.Nat.{ℕ, ◌+◌, ◌*◌, ◌≤◌, ◌<◌}
use native.Mathlib.Omega.{arith}
use lib.Dec.{ltb}
use lib.ListN.{length, take, get_or}
use lib.Seq.{length-take-le, get_or-take, ext_get_or}
use lib.Ieee.{Float, nan}
use borrow.Author.Tests.{ltb-true}
use Rattle.shape.specs.Below.{any_below}
use Rattle.shape.proofs.Below.{NoneYet, none-step, one_found}
use Rattle.multibspline.specs.Numbers.{f0}
use Rattle.evaluation.specs.Axes.{per_axis, in_use, query}
use Rattle.evaluation.proofs.Entries.{axis-at}

-- ---- a test of the axes in turn

-- by a call that tests one axis
module _ (test : ℕ → Bool) (n a : ℕ) (r : Bool) (h : NoneYet test n a) (e : r ≡ test a) (l : a < n) where
  pub axis-found : r ≡ true → true ≡ any_below test n
  axis-found q = one_found test n a l (sym e ∙ q)

  pub axis-passed : r ≡ false → NoneYet test n (a + 1)
  axis-passed q = none-step test n a h l (sym e ∙ q)

-- ---- one entry an axis

module _ {A : Type 0} (z : A) (count : ℕ) (g h : ℕ → A) (same : (a : ℕ) → a < count → g a ≡ h a) where
  entry : (a : ℕ) → cond (ltb a count) (g a) z ≡ cond (ltb a count) (h a) z
  entry a = go (ltb a count) refl
    where
      go : (t : Bool) → ltb a count ≡ t → cond t (g a) z ≡ cond t (h a) z
      go true e = same a (ltb-true a count e)
      go false e = refl

  pub per-axis : per_axis z count g ≡ per_axis z count h
  per-axis = rw (entry 0, entry 1, entry 2, entry 3)

pub in_use_lem : {A : Type 0} (o z : A) (count : ℕ) (xs ys : List A) → ((a : ℕ) → a < count → get_or xs a o ≡ get_or ys a o) → in_use o z count xs ≡ in_use o z count ys
unfolding in_use
in_use_lem o z count xs ys same = per-axis z count (λ a. get_or xs a o) (λ a. get_or ys a o) same

module _ (count : ℕ) (xs : List Float) (few : count ≤ 4) where
  query-at : (a : ℕ) → a < count → get_or (query count xs 1 0) a nan ≡ get_or xs a nan
  unfolding query
  query-at a h = axis-at _ nan count (λ k. get_or xs (k * 1 + 0) nan) a h few ∙ ap (λ (k : ℕ). get_or xs k nan) (let q : a * 1 + 0 ≡ a = omega arith in q)

  pub query-in-use : in_use nan f0 count (query count xs 1 0) ≡ in_use nan f0 count xs
  query-in-use = in_use_lem nan f0 count (query count xs 1 0) xs query-at

  length-query : length (query count xs 1 0) ≡ 4
  unfolding query
  length-query = refl

  pub query-take : length xs ≡ count → take count (query count xs 1 0) ≡ xs
  query-take e =
      let n : length (take count (query count xs 1 0)) ≡ count = length-take-le count (query count xs 1 0) (omega (arith, length-query)) in
      ext_get_or nan (take count (query count xs 1 0)) xs (n ∙ sym e) (λ i h. let l : i < count = rw n at h in get_or-take count (query count xs 1 0) i nan l ∙ query-at i l)
