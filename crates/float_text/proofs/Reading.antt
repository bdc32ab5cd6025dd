-- Digits are read one after the other. Assumes nothing.
use mathlib.Core.Path.{◌≡◌, sym, ◌∙◌}
use mathlib.Core.List.{List}
use Prim.Native.Nat.{ℕ, ◌+◌, ◌*◌, ◌^◌, ◌≤◌, ◌<◌}
use native.Mathlib.Nat.{pow-suc, pow-le-pow_right, le_trans, lt_of_lt_of_le}
use native.Mathlib.Numerals.{add-one}
use native.Mathlib.Omega.{arith}
use lib.Arith.{digits_lt}
use lib.ListN.{length, drop, get_or, drop_of_length-le}
use lib.Seq.{drop-cons}
use borrow.Author.Tests.{lt-ltb, le-ltb}
use Rattle.float_text.specs.Digits.{number_from, digit_of}
use Rattle.std.specs.Prelude.{Some, None}

pub record Reading (base : ℕ) (text : List ℕ) (n i : ℕ) : Type 0 where
  pub within : i ≤ length text
  pub below : n < base ^ i
  pub rest : number_from base 0 text ≡ number_from base n (drop i text)

module _ (base : ℕ) (text : List ℕ) (n i d : ℕ) (h : Reading base text n i) (l : i < length text) where
  pub Reading-below : d < base → n * base + d < base ^ (i + 1)
  Reading-below g = rw (add-one i, pow-suc base i) (digits_lt h.below g)

  pub Reading-fits : d < base → base ^ length text ≤ 2 ^ 64 → n * base + d < 2 ^ 64
  Reading-fits g room =
      lt_of_lt_of_le (Reading-below g) (le_trans (pow-le-pow_right (omega arith) (let q : i + 1 ≤ length text = omega arith in q)) room)

  pub Reading-mul : d < base → base ^ length text ≤ 2 ^ 64 → n * base < 2 ^ 64
  Reading-mul g room = omega (arith, Reading-fits g room)

  module _ (e : d ≡ digit_of (get_or text i 0)) where
    pub Reading-step : d < base → Reading base text (n * base + d) (i + 1)
    unfolding number_from
    Reading-step g = record {
      within = omega arith;
      below = Reading-below g;
      rest = h.rest ∙ rw (add-one i, drop-cons text i 0 l, ← e, lt-ltb d base g);
    }

    pub Reading-bad : base ≤ d → None ≡ number_from base 0 text
    unfolding number_from
    Reading-bad g = sym (h.rest ∙ rw (drop-cons text i 0 l, ← e, le-ltb d base g))

pub Reading-done : (base : ℕ) (text : List ℕ) (n i : ℕ) → Reading base text n i → length text ≤ i → Some n ≡ number_from base 0 text
unfolding number_from
Reading-done base text n i h l = sym (h.rest ∙ rw (drop_of_length-le text l))
