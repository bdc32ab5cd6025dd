-- A single query as a batch of one: its value, and its gradient. Assumes nothing.
use Rattle.std.proofs.Common.{◌≡◌, refl, ◌∙◌, ◌≤◌, ◌<◌, ◌+◌, ◌*◌, Bool, true, false, cond, List, ℕ, zero, suc, get_or, ltb, replicate, Float, arith}
use Rattle.std.specs.Float.{nan}
use Rattle.shape.specs.Cells.{put}
use Rattle.multibspline.specs.Numbers.{f0}
use Rattle.evaluation.specs.Axes.{zeros, parts, query}
use Rattle.evaluation.specs.Batch.{before, written, bad_at, value_step, gradient_step}
use Rattle.evaluation.specs.Block.{Block}
use Rattle.evaluation.specs.Entries.{Answered, GradientAnswered, Entries}
use Rattle.evaluation.specs.Spline.{Spline, gradient}

-- refused, it leaves what it found
pub refused-entry : {bad : ℕ → Bool} {step : ℕ → List Float → List Float} {out out' : List Float} {r : ℕ} → Block bad step 0 1 out r out' → r < 1 → Entries bad step 1 out 6 out
unfolding written before
refused-entry {r} b none = let e : r ≡ 0 = omega arith in let stop = rw e at (b.stops none) in record { answers = rw stop; leaves = rw stop }

-- the parts, written into zeros
single-parts : (count : ℕ) (part : ℕ → Float) → count ≤ 4 → put (λ k. k * 1 + 0) part count zeros ≡ parts count part
single-parts zero part h = refl
single-parts (suc zero) part h = refl
single-parts (suc (suc zero)) part h = refl
single-parts (suc (suc (suc zero))) part h = refl
single-parts (suc (suc (suc (suc zero)))) part h = refl
single-parts (suc (suc (suc (suc (suc count))))) part h = absurd (omega (arith, h))

module _ (s : Spline) (x : List Float) {answer : ℕ} {out : List Float} where
  pub value-entry : Entries (bad_at s x 1) (value_step s x 1) 1 (replicate 1 f0) answer out → Answered s (query s.axes x 1 0) answer (get_or out 0 nan)
  unfolding bad_at value_step written before
  value-entry w = let r = go (s.refuses (query s.axes x 1 0)) w.answers w.leaves in record { answers = r.0; valued = r.1 }
    where
      go : (b : Bool) → answer ≡ cond (ltb (cond b 0 1) 1) 6 0 → out ≡ written (value_step s x 1) (cond b 0 1) (replicate 1 f0)
          → (answer ≡ cond b 6 0) × (get_or out 0 nan ≡ cond b f0 (s.value (query s.axes x 1 0)))
      go true a l = (a, rw l refl)
      go false a l = (a, rw l refl)

  pub gradient-entry : s.axes ≤ 4 → Entries (bad_at s x 1) (gradient_step s x 1) 1 (replicate 4 f0) answer out → GradientAnswered s (query s.axes x 1 0) answer out
  unfolding bad_at gradient_step written before
  gradient-entry few w = let r = go (s.refuses (query s.axes x 1 0)) w.answers w.leaves in record { answers = r.0; gradient = r.1 }
    where
      go : (b : Bool) → answer ≡ cond (ltb (cond b 0 1) 1) 6 0 → out ≡ written (gradient_step s x 1) (cond b 0 1) (replicate 4 f0)
          → (answer ≡ cond b 6 0) × (out ≡ cond b zeros (gradient s (query s.axes x 1 0)))
      go true a l = (a, l)
      go false a l = (a, l ∙ single-parts s.axes (s.part (query s.axes x 1 0)) few)
