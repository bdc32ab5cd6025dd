-- What is said of a map holds of one that is the same to the calls that evaluate it. Assumes nothing.
use mathlib.Core.Path.{◌≡◌, subst}
use mathlib.Core.List.{List}
use Prim.Native.Nat.{ℕ}
use lib.Ieee.{Float}
use Rattle.evaluation.specs.Axes.{query}
use Rattle.evaluation.specs.Spline.{Spline}
use Rattle.evaluation.specs.Entries.{Answered, GradientAnswered}
use Rattle.evaluation.specs.Entries.{ValueEntries, GradientEntries}

module _ {s s' : Spline} (e : s ≡ s') where
  pub same-value : (x : List Float) {answer : ℕ} {v : Float} → Answered s (query s.axes x 1 0) answer v → Answered s' (query s'.axes x 1 0) answer v
  same-value x {answer} {v} w = subst (λ (s : Spline). Answered s (query s.axes x 1 0) answer v) e w

  pub same-gradient : (x : List Float) {answer : ℕ} {ps : List Float} → GradientAnswered s (query s.axes x 1 0) answer ps → GradientAnswered s' (query s'.axes x 1 0) answer ps
  same-gradient x {answer} {ps} w = subst (λ (s : Spline). GradientAnswered s (query s.axes x 1 0) answer ps) e w

  module _ (xs : List Float) (n : ℕ) {out : List Float} {answer : ℕ} {out' : List Float} where
    pub same-values : ValueEntries s xs n out answer out' → ValueEntries s' xs n out answer out'
    same-values w = subst (λ (s : Spline). ValueEntries s xs n out answer out') e w

    pub same-gradients : GradientEntries s xs n out answer out' → GradientEntries s' xs n out answer out'
    same-gradients w = subst (λ (s : Spline). GradientEntries s xs n out answer out') e w
