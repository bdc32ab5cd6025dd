-- The gradient over one axis, and the loop over the entries of a block. Assumes nothing.
use mathlib.Core.Path.{◌≡◌, refl, sym, ap, ◌∙◌}
use mathlib.Core.List.{List, []}
use Prim.Native.Nat.{ℕ, ◌+◌, ◌*◌, ◌≤◌, ◌<◌}
use native.Mathlib.Numerals.{add-one}
use native.Mathlib.Omega.{arith}
use lib.ListN.{length, get_or, set, length-set}
use lib.Seq.{get_or-set_same}
use lib.Ieee.{Float, Format}
use Rattle.shape.specs.Cells.{put}
use Rattle.shape.proofs.Cells.{length-put}
use Rattle.interp_math.specs.Sum.{summed, gradient_part}
use Rattle.interp_math.proofs.Summed.{summed-ext}
use Rattle.evaluation.specs.Axes.{rows}
use Rattle.evaluation.specs.Granted.{RowsOn}
use Rattle.evaluation.specs.Batch.{written}

-- over one axis, the part of the gradient is the sum by the slopes
pub slope-alone : (f : Format) (coefs : List Float) (strides : List ℕ) (weights slopes sums : List (List Float)) (first : ℕ) → 0 < length weights → get_or sums 0 [] ≡ get_or slopes 0 []
    → summed f coefs strides sums 1 first ≡ gradient_part f coefs strides weights slopes 1 first 0
unfolding gradient_part
slope-alone f coefs strides weights slopes sums first some e =
    summed-ext f coefs strides strides sums _ 1 first (λ l h. refl)
    (λ l h. let z : l ≡ 0 = omega arith in rw z (e ∙ sym (get_or-set_same weights 0 (get_or slopes 0 []) [] some)))

pub slope-sum : (f : Format) (coefs : List Float) (ss : List ℕ) (first count : ℕ) (weight slope : ℕ → List Float) {ds : List (List Float)} → count ≡ 1 → RowsOn count slope ds
    → summed f coefs ss ds count first ≡ gradient_part f coefs ss (rows count weight) (rows count slope) count first 0
slope-sum f coefs ss first count weight slope {ds} one d = let own = d.at 0 (omega arith) in rw one (slope-alone f coefs ss (rows 1 weight) (rows 1 slope) ds first (omega arith) own)

-- ---- the loop over the entries of a block

pub record Writing (step : ℕ → List Float → List Float) (m : ℕ) (out₀ out : List Float) (k : ℕ) : Type 0 where
  pub most : k ≤ m
  pub length-out : length out ≡ length out₀
  pub values : out ≡ written step k out₀

module _ {step : ℕ → List Float → List Float} {m : ℕ} {out₀ : List Float} where
  pub writing_start : Writing step m out₀ out₀ 0
  unfolding written
  writing_start = record { most = omega arith; length-out = refl; values = refl }

  pub writing-next : {out out' : List Float} {k : ℕ} → Writing step m out₀ out k → k < m → length out' ≡ length out → out' ≡ step k out → Writing step m out₀ out' (k + 1)
  unfolding written
  writing-next {out} {out'} {k} w h len e = record { most = omega arith; length-out = len ∙ w.length-out; values = rw (add-one k) (e ∙ ap (step k) w.values) }

  pub writing-done : {out : List Float} {k : ℕ} → Writing step m out₀ out k → m ≤ k → out ≡ written step m out₀
  writing-done {out} {k} w h =
      let all : k ≡ m = omega (arith, w.most) in
      rw all at w.values

-- one number an entry
pub writing-set : (start : ℕ) (v : ℕ → Float) {m : ℕ} {out₀ out : List Float} {k : ℕ} {x : Float} → Writing (λ k o. set o (start + k) (v k)) m out₀ out k → k < m → x ≡ v k
    → Writing (λ k o. set o (start + k) (v k)) m out₀ (set out (start + k) x) (k + 1)
writing-set start v {m} {out₀} {out} {k} {x} w h e = writing-next w h (length-set out (start + k) x) (ap (set out (start + k)) e)

-- the parts of a gradient
pub writing-put : (start n count : ℕ) (g : ℕ → ℕ → Float) {m : ℕ} {out₀ out out' : List Float} {k : ℕ} → Writing (λ k o. put (λ j. j * n + (start + k)) (g k) count o) m out₀ out k → k < m
    → out' ≡ put (λ j. j * n + (start + k)) (g k) count out → Writing (λ k o. put (λ j. j * n + (start + k)) (g k) count o) m out₀ out' (k + 1)
writing-put start n count g {m} {out₀} {out} {out'} {k} w h e = writing-next w h (rw e (length-put (λ j. j * n + (start + k)) (g k) count out)) e
