-- The loop of a fit over the axes, for any way of solving a line. Assumes nothing.
use mathlib.Core.Path.{◌≡◌, refl, ap, ap₂, ◌∙◌}
use mathlib.Core.List.{List}
use Prim.Native.Nat.{ℕ, ◌+◌, ◌≤◌, ◌<◌}
use native.Mathlib.Numerals.{add-one}
use native.Mathlib.Omega.{arith}
use lib.ListN.{length}
use Rattle.shape.specs.Shape.{longest, points, stride, lines}
use Rattle.shape.specs.Fit.{line_leaves, solve_axis, fit_after, fit, axis_scratch, scratch_after_axes}
use Rattle.shape.proofs.Fit.{length-solve_lines}
use Rattle.shape.proofs.Scratch.{length-scratch}

-- ---- the axes below a are solved

module _ {A : Type 0} (o : A) (upper solve : ℕ → (ℕ → A) → ℕ → A) (dims : List ℕ) where
  pub record AxesSolved (samples ss₀ xs ss : List A) (a : ℕ) : Type 0 where
    pub most : a ≤ length dims
    pub length-xs : length xs ≡ length samples
    pub length-ss : length ss ≡ length ss₀
    pub coefs : xs ≡ fit_after o solve dims a samples
    pub scratch : ss ≡ scratch_after_axes o upper solve dims a samples ss₀

  module _ {samples ss₀ : List A} where
    pub axes-start : AxesSolved samples ss₀ samples ss₀ 0
    unfolding fit_after scratch_after_axes
    axes-start = record { most = omega arith; length-xs = refl; length-ss = refl; coefs = refl; scratch = refl }

    pub axes-step : {xs ss xs' ss' : List A} {a : ℕ} → AxesSolved samples ss₀ xs ss a → a < length dims
        → xs' ≡ solve_axis o solve dims a xs → ss' ≡ axis_scratch o upper solve dims a xs ss → AxesSolved samples ss₀ xs' ss' (a + 1)
    unfolding fit_after scratch_after_axes line_leaves
    axes-step {xs} {ss} {xs'} {ss'} {a} w h ex es =
        record {
          most = omega arith;
          length-xs = ap length ex ∙ length-solve_lines o (solve a) (points dims a) (stride dims a) (lines dims a) xs ∙ w.length-xs;
          length-ss = ap length es ∙ length-scratch (longest dims) _ _ (points dims a) ss ∙ w.length-ss;
          coefs = rw (add-one a) (ex ∙ ap (solve_axis o solve dims a) w.coefs);
          scratch = rw (add-one a) (es ∙ ap₂ (axis_scratch o upper solve dims a) w.coefs w.scratch);
        }

    pub axes-coefs : {xs ss : List A} {a : ℕ} → AxesSolved samples ss₀ xs ss a → length dims ≤ a → xs ≡ fit o solve dims samples
    axes-coefs {a} w h = let e : a ≡ length dims = omega (arith, w.most) in rw e at w.coefs

    pub axes-scratch : {xs ss : List A} {a : ℕ} → AxesSolved samples ss₀ xs ss a → length dims ≤ a → ss ≡ scratch_after_axes o upper solve dims (length dims) samples ss₀
    axes-scratch {a} w h = let e : a ≡ length dims = omega (arith, w.most) in rw e at w.scratch
