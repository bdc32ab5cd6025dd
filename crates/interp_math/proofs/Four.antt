-- Four entries: a list of them, entry by entry, and a count of them. Assumes nothing.
use mathlib.Core.Path.{◌≡◌, refl, sym}
use mathlib.Core.List.{List, [], ◌∷◌}
use Prim.Native.Nat.{ℕ, ◌≤◌, ◌<◌}
use native.Mathlib.Omega.{arith}
use lib.Arith.{lt_of_le-ne}
use lib.ListN.{length, get_or}

pub four : {A : Type 0} (d : A) (l : List A) → length l ≡ 4 → l ≡ get_or l 0 d ∷ get_or l 1 d ∷ get_or l 2 d ∷ get_or l 3 d ∷ []
four d [] h = absurd (let q : ⊥ = omega arith in q)
four d (a ∷ []) h = absurd (let q : ⊥ = omega arith in q)
four d (a ∷ b ∷ []) h = absurd (let q : ⊥ = omega arith in q)
four d (a ∷ b ∷ c ∷ []) h = absurd (let q : ⊥ = omega arith in q)
four d (a ∷ b ∷ c ∷ e ∷ []) h = refl
four d (a ∷ b ∷ c ∷ e ∷ g ∷ l) h = absurd (let q : ⊥ = omega arith in q)

-- the count of axes where it is none of the first three
pub is-four : (n : ℕ) → 1 ≤ n → n ≤ 4 → (n ≡ 1 → ⊥) → (n ≡ 2 → ⊥) → (n ≡ 3 → ⊥) → n ≡ 4
is-four n low high one two three =
    let a : 1 < n = lt_of_le-ne low (λ e. one (sym e)) in
    let b : 2 < n = lt_of_le-ne a (λ e. two (sym e)) in
    let c : 3 < n = lt_of_le-ne b (λ e. three (sym e)) in
    omega arith
