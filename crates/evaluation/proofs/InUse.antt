-- What is worked out from the entries for the axes in use alone: it is the same where these are. Assumes nothing.
use mathlib.Core.Path.{◌≡◌, refl, sym, ◌∙◌}
use mathlib.Core.Bool.{Bool, true, false, cond}
use mathlib.Core.List.{List}
use Prim.Native.Nat.{ℕ, ◌*◌, ◌<◌}
use native.Mathlib.Omega.{arith}
use lib.Dec.{ltb}
use lib.ListN.{length, take, get_or, length-take}
use lib.Seq.{get_or-take, ext_get_or}
use borrow.Author.Tests.{ltb-true}
use Rattle.shape.specs.Shape.{stride}
use Rattle.shape.proofs.Below.{sum_below-ext}
use Rattle.evaluation.specs.Axes.{per_axis, first_over}

pub take_same : {A : Type 0} (d : A) (n : ℕ) (xs ys : List A) → length xs ≡ length ys → ((a : ℕ) → a < n → get_or xs a d ≡ get_or ys a d) → take n xs ≡ take n ys
take_same d n xs ys len same =
    ext_get_or d (take n xs) (take n ys) (length-take n xs ∙ rw len (sym (length-take n ys)))
    (λ i h.
    let below : i < n = omega (arith, length-take n xs) in
    get_or-take n xs i d below ∙ same i below ∙ sym (get_or-take n ys i d below))

module _ {A : Type 0} (unused : A) (count : ℕ) (entry entry' : ℕ → A) (same : (a : ℕ) → a < count → entry a ≡ entry' a) where
  used-same : (a : ℕ) → cond (ltb a count) (entry a) unused ≡ cond (ltb a count) (entry' a) unused
  used-same a = go (ltb a count) refl
    where
      go : (t : Bool) → ltb a count ≡ t → cond t (entry a) unused ≡ cond t (entry' a) unused
      go true e = same a (ltb-true a count e)
      go false e = refl

  pub per-axis-same : per_axis unused count entry ≡ per_axis unused count entry'
  per-axis-same = rw (used-same 0, used-same 1, used-same 2, used-same 3)

pub first-same : (dims : List ℕ) (origin origin' : ℕ → ℕ) (n : ℕ) → ((a : ℕ) → a < n → origin a ≡ origin' a) → first_over dims origin n ≡ first_over dims origin' n
unfolding first_over
first-same dims origin origin' n same = sum_below-ext (λ b. origin' b * stride dims b) (λ b. origin b * stride dims b) n (λ a h. rw (same a h))
