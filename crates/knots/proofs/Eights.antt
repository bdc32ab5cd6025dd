-- Laws of `rises`, nine knots at a time: the comparison of eight at once, and that the parts make the whole. Assumes nothing.
use mathlib.Core.Logic.{inl, inr}
use mathlib.Core.Path.{◌≡◌, refl, ap, sym, ◌∙◌}
use mathlib.Core.Bool.{Bool, true, false, cond, ◌&&◌}
use mathlib.Core.List.{List, [], ◌∷◌, map}
use Prim.Native.Nat.{ℕ, zero, suc, ◌+◌, ◌*◌, ◌-◌, ◌^◌, ◌%◌, ◌≤◌, ◌<◌}
use native.Mathlib.Omega.{arith}
use lib.Dec.{eqb}
use lib.ListN.{length, take, drop, length-drop}
use lib.Lanes.{zip2, mask_l, top}
use lib.Ieee.{Float, lt}
use Rattle.std.specs.List.{list_all, range_with_len}
use Rattle.std.proofs.Math.Nat.{two-pow-succ}
use Rattle.std.proofs.Math.Bool.{and_assoc}
use Rattle.std.proofs.lemmas.Bool.{eqb-true, eq-eqb}
use Rattle.std.proofs.lemmas.List.{length-take-le, drop-drop}
use Rattle.std.proofs.lemmas.Simd.{mask_l-lt, mask_l-mod, tops_compared, length-zip2}
use Rattle.std.proofs.Math.Dec.{eqb-suc-suc}
use mir.Syntax.{w64}
use Rattle.shape.proofs.Below.{apart, same_test, either}
use Rattle.knots.specs.Knots.{rises}

abbrev all : List Bool → Bool
all ms = list_all (λ m. m) ms

-- a mask has every bit set where all comparisons hold, and is less elsewhere
full : (ms : List Bool) → all ms ≡ true → mask_l ms + 1 ≡ 2 ^ length ms
full [] h = refl
full (true ∷ ms) h = omega (arith, full ms h, two-pow-succ (length ms))
full (false ∷ ms) h = absurd (apart false h refl)

less : (ms : List Bool) → all ms ≡ false → mask_l ms + 1 < 2 ^ length ms
less [] h = absurd (apart true refl h)
less (true ∷ ms) h = omega (arith, less ms h, two-pow-succ (length ms))
less (false ∷ ms) h = omega (arith, mask_l-lt ms, two-pow-succ (length ms))

full_mask : (ms : List Bool) → eqb (mask_l ms + 1) (2 ^ length ms) ≡ all ms
full_mask ms =
    same_test (eqb (mask_l ms + 1) (2 ^ length ms)) (all ms)
    (λ e. elim (either (all ms)) [
      | inl h ↦ h
      | inr h ↦ absurd (let q : ⊥ = omega (arith, less ms h, eqb-true _ _ e) in q)
    ])
    (λ h. eq-eqb _ _ (full ms h))

-- knots compared with those after them
compared : (n : ℕ) (a : Float) (ks : List Float) → all (zip2 lt (take n (a ∷ ks)) (take n ks)) ≡ rises (take (suc n) (a ∷ ks))
unfolding rises
compared zero a ks = refl
compared (suc n) a [] = refl
compared (suc n) a (b ∷ ks) = ap (λ (r : Bool). lt a b && r) (compared n b ks)

-- eight comparisons at once
pub at_once : (ks : List Float) → 9 ≤ length ks
    → eqb (mask_l (map (top 63) (zip2 (λ a b. cond (lt a b) (2 ^ 64 - 1) 0) (take 8 ks) (take 8 (drop 1 ks)))) % 2 ^ 64) 255 ≡ rises (take 9 ks)
at_once [] l = absurd (let q : ⊥ = omega arith in q)
at_once (a ∷ ks) l =
    let ms = zip2 lt (take 8 (a ∷ ks)) (take 8 ks) in
    let here : length (take 8 (a ∷ ks)) ≡ 8 = length-take-le 8 (a ∷ ks) (omega arith) in
    let after : length (take 8 ks) ≡ 8 = length-take-le 8 ks (omega arith) in
    let eight : length ms ≡ 8 = length-zip2 lt (take 8 (a ∷ ks)) (take 8 ks) (here ∙ sym after) ∙ here in
    ap (λ (m : List Bool). eqb (mask_l m % 2 ^ 64) 255) (tops_compared w64 lt (take 8 (a ∷ ks)) (take 8 ks))
    ∙ ap (λ (m : ℕ). eqb m 255) (mask_l-mod ms 64 (omega (arith, eight)))
    ∙ sym (eqb-suc-suc (mask_l ms) 255)
    ∙ ap (λ (n : ℕ). eqb n 256) (let q : suc (mask_l ms) ≡ mask_l ms + 1 = omega arith in q)
    ∙ ap (λ (n : ℕ). eqb (mask_l ms + 1) (2 ^ n)) (sym eight)
    ∙ full_mask ms
    ∙ compared 8 a ks

-- knots rise where they do up to a knot and from it on
pub rises-cut : (ks : List Float) (i : ℕ) → i < length ks → rises (take (suc i) ks) && rises (drop i ks) ≡ rises ks
unfolding rises
rises-cut [] i l = absurd (let q : ⊥ = omega arith in q)
rises-cut (a ∷ ks) zero l = refl
rises-cut (a ∷ []) (suc i) l = absurd (let q : ⊥ = omega arith in q)
rises-cut (a ∷ b ∷ ks) (suc i) l =
    and_assoc (lt a b) (rises (take (suc i) (b ∷ ks))) (rises (drop i (b ∷ ks))) ∙ ap (λ (r : Bool). lt a b && r) (rises-cut (b ∷ ks) i (omega arith))

module _ (ks : List Float) where
  abbrev pub nine : ℕ → Bool
  nine k = rises (take 9 (drop (8 * k) ks))

  -- from nine knots to the next, the last of the one the first of the other
  nines-from : (a k : ℕ) → 8 * (a + k) < length ks → (list_all nine (range_with_len a k) && rises (drop (8 * (a + k)) ks)) ≡ rises (drop (8 * a) ks)
  nines-from a zero l = ap (λ (n : ℕ). rises (drop (8 * n) ks)) (let q : a + 0 ≡ a = omega arith in q)
  nines-from a (suc k) l =
      let e : a + suc k ≡ a + 1 + k = omega arith in
      let e8 : 8 * a + 8 ≡ 8 * (a + 1) = omega arith in
      let ds = drop (8 * a) ks in
      let within : 8 < length ds = omega (arith, length-drop (8 * a) ks) in
      rw e
      (and_assoc (nine a) (list_all nine (range_with_len (a + 1) k)) (rises (drop (8 * (a + 1 + k)) ks))
      ∙ ap (λ (r : Bool). nine a && r) (nines-from (a + 1) k (omega arith) ∙ ap (λ (n : ℕ). rises (drop n ks)) (sym e8) ∙ ap rises (sym (drop-drop 8 (8 * a) ks)))
      ∙ rises-cut ds 8 within)

  nines : (k : ℕ) → 8 * k < length ks → (list_all nine (range_with_len 0 k) && rises (drop (8 * k) ks)) ≡ rises ks
  nines k l = let e : 0 + k ≡ k = omega arith in rw e at (nines-from 0 k (omega arith))

  -- the answer of a test of all the nines, and that of what is left
  pub by_nines : (b : Bool) (k : ℕ) → 8 * k < length ks → b ≡ list_all nine (range_with_len 0 k) → b && rises (drop (8 * k) ks) ≡ rises ks
  by_nines b k l e = rw e (nines k l)
