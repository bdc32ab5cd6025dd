-- Laws of `put`, lines and what a line leaves in scratch. Assumes nothing.
use mathlib.Core.Path.{◌≡◌, refl, sym, ◌∙◌}
use mathlib.Core.Logic.{◌≢◌, ◌⊎◌, inl, inr, ⊎_elim}
use mathlib.Core.List.{List}
use Prim.Native.Nat.{ℕ, zero, suc, ◌+◌, ◌-◌, ◌*◌, ◌≤◌, ◌<◌, zero-le, suc-le-suc}
use native.Mathlib.Nat.{mul-le-mul_right, suc-mul, eq-or-lt_of_le}
use native.Mathlib.Numerals.{add-one}
use native.Mathlib.Omega.{arith}
use lib.ListN.{length, get_or, set, length-set}
use lib.Seq.{get_or-set_same, get_or-set_other, ext_get_or}
use Rattle.shape.specs.Cells.{put, from, on_line, write_line}

-- either way round
pub lt-or-ge : (k n : ℕ) → (k < n) ⊎ (n ≤ k)
lt-or-ge k zero = inr zero-le
lt-or-ge zero (suc n) = inl (suc-le-suc zero-le)
lt-or-ge (suc k) (suc n) = ⊎_elim (λ p. inl (suc-le-suc p)) (λ q. inr (suc-le-suc q)) (lt-or-ge k n)

-- entry i of a line of n entries is within what the last one is within
pub within : (base stride n i m : ℕ) → i < n → on_line base stride (n - 1) < m → on_line base stride i < m
within base stride n i m h last =
    let k : i ≤ n - 1 = omega arith in
    omega (arith, mul-le-mul_right stride k)

module _ {A : Type 0} (place : ℕ → ℕ) (g : ℕ → A) where
  pub length-put : (n : ℕ) (l : List A) → length (put place g n l) ≡ length l
  length-put zero l = refl
  length-put (suc n) l = length-set (put place g n l) (place n) (g n) ∙ length-put n l

  -- a cell at none of the places is as it was
  pub put_other : (n : ℕ) (l : List A) (j : ℕ) (d : A) → ((k : ℕ) → k < n → j ≢ place k) → get_or (put place g n l) j d ≡ get_or l j d
  put_other zero l j d away = refl
  put_other (suc n) l j d away =
      get_or-set_other (put place g n l) (place n) j (g n) d (away n (omega arith))
      ∙ put_other n l j d (λ k h. away k (omega arith))

  -- the cell at a place, where the later places differ from it
  pub put_same : (n : ℕ) (l : List A) (k : ℕ) (d : A) → k < n → place k < length l → ((j : ℕ) → k < j → j < n → place k ≢ place j) → get_or (put place g n l) (place k) d ≡ g k
  put_same zero l k d h inside apart = elim h [ ]
  put_same (suc n) l k d h inside apart =
      ⊎_elim
      (λ (same : k ≡ n).
      let inside' : place n < length (put place g n l) = rw (length-put n l, ← same) inside in
      rw same (get_or-set_same (put place g n l) (place n) (g n) d inside'))
      (λ (less : k < n).
      get_or-set_other (put place g n l) (place n) (place k) (g n) d (apart n less (omega arith))
      ∙ put_same n l k d less inside (λ j p q. apart j p (omega arith)))
      (eq-or-lt_of_le (omega arith))

  -- one more
  pub put_next : (i : ℕ) (l r r' : List A) (x : A) → r ≡ put place g i l → r' ≡ set r (place i) x → x ≡ g i → r' ≡ put place g (i + 1) l
  put_next i l r r' x e e' v = rw (add-one i) (e' ∙ rw (e, v))

-- only g's values below n matter
pub put-ext : {A : Type 0} (place : ℕ → ℕ) (g h : ℕ → A) (n : ℕ) (l : List A) → ((k : ℕ) → k < n → g k ≡ h k) → put place g n l ≡ put place h n l
put-ext place g h zero l same = refl
put-ext place g h (suc n) l same = rw (same n (omega arith), put-ext place g h n l (λ k p. same k (omega arith)))

-- ---- the cells from m on

module _ {A : Type 0} (m : ℕ) (g : ℕ → A) (n : ℕ) (l : List A) (d : A) where
  pub from_in : (k : ℕ) → k < n → m + n ≤ length l → get_or (put (from m) g n l) (m + k) d ≡ g k
  from_in k h fits = put_same (from m) g n l k d h (omega arith) (λ j p q e. omega arith)

  pub from-before : (k : ℕ) → k < m → get_or (put (from m) g n l) k d ≡ get_or l k d
  from-before k h = put_other (from m) g n l k d (λ j p e. omega arith)

  pub from_past : (k : ℕ) → m + n ≤ k → get_or (put (from m) g n l) k d ≡ get_or l k d
  from_past k h = put_other (from m) g n l k d (λ j p e. omega arith)

  -- the list whose cells from m on are g's values, and whose other cells are l's
  pub from-unique : (r : List A) → m + n ≤ length l → length r ≡ length l
      → ((k : ℕ) → k < n → get_or r (m + k) d ≡ g k) → ((k : ℕ) → k < m → get_or r k d ≡ get_or l k d) → ((k : ℕ) → m + n ≤ k → get_or r k d ≡ get_or l k d)
      → r ≡ put (from m) g n l
  from-unique r fits len in-front before past =
      ext_get_or d r (put (from m) g n l) (len ∙ sym (length-put (from m) g n l)) each
    where
      middle : (k : ℕ) → m ≤ k → k < m + n → get_or r k d ≡ get_or (put (from m) g n l) k d
      middle k p q =
          let e : k ≡ m + (k - m) = omega arith in
          rw e (in-front (k - m) (omega arith) ∙ sym (from_in (k - m) (omega arith) fits))

      each : (k : ℕ) → k < length r → get_or r k d ≡ get_or (put (from m) g n l) k d
      each k h =
          ⊎_elim (λ (p : k < m). before k p ∙ sym (from-before k p))
          (λ (p : m ≤ k). ⊎_elim (λ (q : k < m + n). middle k p q) (λ (q : m + n ≤ k). past k q ∙ sym (from_past k q)) (lt-or-ge k (m + n)))
          (lt-or-ge k m)

-- what stood there before does not matter
pub from-over : {A : Type 0} (m : ℕ) (g h : ℕ → A) (n : ℕ) (l : List A) (d : A) → m + n ≤ length l → put (from m) g n (put (from m) h n l) ≡ put (from m) g n l
from-over m g h n l d fits =
    let len : length (put (from m) h n l) ≡ length l = length-put (from m) h n l in
    from-unique m g n l d (put (from m) g n (put (from m) h n l)) fits
    (length-put (from m) g n (put (from m) h n l) ∙ len)
    (λ k p. from_in m g n (put (from m) h n l) d k p (omega arith))
    (λ k p. from-before m g n (put (from m) h n l) d k p ∙ from-before m h n l d k p)
    (λ k p. from_past m g n (put (from m) h n l) d k p ∙ from_past m h n l d k p)

-- ---- lines

-- the places of a line are apart
pub line-apart : (base stride i j : ℕ) → 0 < stride → i < j → on_line base stride i ≢ on_line base stride j
line-apart base stride i j pos h same =
    let k : suc i * stride ≤ j * stride = mul-le-mul_right stride h in
    omega (arith, k, suc-mul i stride)

-- an entry of a line that has been written, and a cell that is on no entry of it
module _ {A : Type 0} (base stride : ℕ) (g : ℕ → A) (n : ℕ) (l : List A) (d : A) where
  pub line-in : (i : ℕ) → 0 < stride → i < n → on_line base stride (n - 1) < length l → get_or (write_line base stride g n l) (on_line base stride i) d ≡ g i
  line-in i pos h last =
      put_same (on_line base stride) g n l i d h (within base stride n i (length l) h last) (λ j p q. line-apart base stride i j pos p)

  pub line-out : (p : ℕ) → ((k : ℕ) → k < n → p ≢ on_line base stride k) → get_or (write_line base stride g n l) p d ≡ get_or l p d
  line-out p away = put_other (on_line base stride) g n l p d away
