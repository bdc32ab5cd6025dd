-- The lines of an axis, group by group: slabs, and bundles of the last axis; and what the axis leaves in scratch. Assumes nothing.
use mathlib.Core.Path.{◌≡◌, refl, sym, ap, ◌∙◌}
use mathlib.Core.List.{List}
use Prim.Native.Nat.{ℕ, zero, suc, ◌+◌, ◌-◌, ◌*◌, ◌/◌, ◌%◌, ◌≤◌, ◌<◌}
use native.Mathlib.Nat.{mul-le-mul_right, suc-mul, div-one, mod-one}
use native.Mathlib.Omega.{arith}
use lib.ListN.{length, set, take, length-set}
use lib.Seq.{set-set}
use lib.Ieee.{Float, nan}
use Rattle.shape.specs.Shape.{product, first_cell, line_of, place_of}
use Rattle.shape.specs.Cells.{put, from, on_line, line}
use Rattle.shape.specs.Fit.{Looks, solve_line, solve_lines, line_scratch, line_leaves}
use Rattle.shape.specs.Usable.{LinesWithin}
use Rattle.shape.proofs.Accepted.{AxisIs}
use Rattle.shape.proofs.Cells.{length-put, put_next, put-ext, from_in}
use Rattle.shape.proofs.Scratch.{put-over}
use Rattle.shape.proofs.Fit.{earlier}
use Rattle.shape.proofs.Radix.{quot, rem, line_of-cell, place_of-cell}
use Rattle.multibspline.specs.Thomas.{at}
use Rattle.lanes.specs.Lanes.{Lanes, solve_from, zero_samples, Uppers}
use Rattle.lanes.proofs.From.{length-solve_from, lines_from}

-- ---- where they lie

multiple : (w h i : ℕ) → h < i → h * w + w ≤ i * w
multiple w h i p = omega (arith, mul-le-mul_right w p, suc-mul h w)

-- slab k
pub laid-slab : (n s slabs k len : ℕ) → 4 ≤ n → 0 < s → k < slabs → slabs * (n * s) ≤ len → Lanes n s (k * s) 1 s len
unfolding first_cell
laid-slab n s slabs k len four pos h fits = record {
  four-points = four;
  stride-pos = pos;
  some = pos;
  starts = (λ j hj. rw (quot k hj, rem k hj) (omega arith));
  within = (λ i j hi hj. omega (arith, multiple s i n hi, multiple (n * s) k slabs h));
}

-- m lines of the last axis
pub laid-bundle : (n lines first m len : ℕ) → 4 ≤ n → 0 < m → first + m ≤ lines → lines * n ≤ len → Lanes n 1 first n m len
unfolding first_cell
laid-bundle n lines first m len four pos h fits = record {
  four-points = four;
  stride-pos = omega arith;
  some = pos;
  starts = (λ j hj. simp (div-one, mod-one) (omega arith));
  within = (λ i j hi hj.
      let z : first + j < lines = omega arith in
      omega (arith, multiple n (first + j) lines z));
}

-- ---- an axis has whole slabs, and the coefficients have room for them

pub axis-whole : {count : ℕ} {lens : List ℕ} {a n s total m : ℕ} → AxisIs count lens a n s total m → 0 < s → total / s * s ≡ total
axis-whole {count} {lens} {a} {n} {s} {total} {m} x pos = whole (product (take a (take count lens))) (x.the-lines ∙ rw x.the-stride)
  where
    whole : (p : ℕ) → total ≡ p * s → total / s * s ≡ total
    whole p e =
        let z : p * s ≡ p * s + 0 = omega arith in
        rw e (ap (λ (k : ℕ). k / s * s) z ∙ rw (quot p pos))

pub lines-room : {n s total m coefs scratch : ℕ} → LinesWithin n s total m coefs scratch → 0 < total → total / s * s ≡ total → total * n ≤ coefs
unfolding first_cell
lines-room {n} {s} {total} {m} {coefs} {scratch} w pos e = room (total / s) (sym e)
  where
    room : (q : ℕ) → total ≡ q * s → total * n ≤ coefs
    room zero e = absurd (omega arith)
    room (suc k) e =
        let hs = w.stride-pos in
        let hr : s - 1 < s = omega arith in
        let last : total - 1 ≡ k * s + (s - 1) = omega arith in
        let inside : (k * s + (s - 1)) / s * (n * s) + (k * s + (s - 1)) % s + (n - 1) * s < coefs = rw last at (w.inside (total - 1) (omega arith)) in
        let there : k * (n * s) + (s - 1) + (n - 1) * s < coefs = rw (quot k hr, rem k hr) at inside in
        let points : suc (n - 1) ≡ n = omega (arith, w.four-points) in
        let row : n * s ≡ (n - 1) * s + s = rw points at (suc-mul (n - 1) s) in
        let all : total * n ≡ suc k * s * n = rw e in
        omega arith

pub slabs-room : (n s lines len : ℕ) → lines / s * s ≡ lines → lines * n ≤ len → lines / s * (n * s) ≤ len
slabs-room n s lines len e fits = let z : lines / s * s * n ≡ lines * n = rw e in omega arith

-- a line alone
module _ (upper c : (ℕ → Float) → ℕ → Float) (n s lines m : ℕ) (xs ss : List Float) (one : lines ≡ 1) where
  pub lone-coefs : (xs' : List Float) → xs' ≡ solve_line nan c n s 0 xs → xs' ≡ solve_lines nan c n s lines xs
  unfolding solve_lines
  lone-coefs xs' e = rw one e

  pub lone-leaves : (ss' : List Float) → ss' ≡ line_leaves nan upper c n s m 0 xs ss → ss' ≡ line_leaves nan upper c n s m (lines - 1) xs ss
  lone-leaves ss' e = rw one e

-- ---- the lines below `first` are solved

pub record SolvedTo (c : (ℕ → Float) → ℕ → Float) (n s most : ℕ) (xs₀ xs : List Float) (first : ℕ) : Type 0 where
  pub below : first ≤ most
  pub size : length xs ≡ length xs₀
  pub cells : xs ≡ solve_lines nan c n s first xs₀

module _ {c : (ℕ → Float) → ℕ → Float} {n s most : ℕ} {xs₀ : List Float} where
  pub to_start : SolvedTo c n s most xs₀ xs₀ 0
  unfolding solve_lines
  to_start = record { below = omega arith; size = refl; cells = refl }

  pub to_step : {xs xs' : List Float} {first : ℕ} (m : ℕ) → SolvedTo c n s most xs₀ xs first → first + m ≤ most → xs' ≡ solve_from nan c n s first m xs → SolvedTo c n s most xs₀ xs' (first + m)
  to_step {xs} {xs'} {first} m w h e = record {
    below = h;
    size = ap length e ∙ length-solve_from nan c n s first m xs ∙ w.size;
    cells = e ∙ rw w.cells (lines_from nan c n s first m xs₀);
  }

-- the slabs below k
pub record Slabs (c : (ℕ → Float) → ℕ → Float) (n s slabs : ℕ) (xs₀ xs : List Float) (k : ℕ) : Type 0 where
  pub below : k ≤ slabs
  pub size : length xs ≡ length xs₀
  pub cells : xs ≡ solve_lines nan c n s (k * s) xs₀

module _ {c : (ℕ → Float) → ℕ → Float} {n s slabs : ℕ} {xs₀ : List Float} where
  pub slabs-start : Slabs c n s slabs xs₀ xs₀ 0
  unfolding solve_lines
  slabs-start = let e : 0 * s ≡ 0 = omega arith in record { below = omega arith; size = refl; cells = rw e }

  pub slabs-step : {xs xs' : List Float} {k : ℕ} → Slabs c n s slabs xs₀ xs k → k < slabs → xs' ≡ solve_from nan c n s (k * s) s xs → Slabs c n s slabs xs₀ xs' (k + 1)
  slabs-step {xs} {xs'} {k} w h e =
      let a : (k + 1) * s ≡ k * s + s = omega arith in
      record {
        below = omega arith;
        size = ap length e ∙ length-solve_from nan c n s (k * s) s xs ∙ w.size;
        cells = e ∙ rw (a, w.cells) (lines_from nan c n s (k * s) s xs₀);
      }

-- ---- numbers set one after the other from place m on

pub record Filled (m : ℕ) (g : ℕ → Float) (n : ℕ) (u₀ u : List Float) (i : ℕ) : Type 0 where
  pub most : i ≤ n
  pub size : length u ≡ length u₀
  pub cells : u ≡ put (from m) g i u₀

module _ {m : ℕ} {g : ℕ → Float} {n : ℕ} {u₀ : List Float} where
  pub filled_next : {u u' : List Float} {i : ℕ} {v : Float} → Filled m g n u₀ u i → i < n → u' ≡ set u (m + i) v → v ≡ g i → Filled m g n u₀ u' (i + 1)
  filled_next {u} {u'} {i} w h e new = record {
    most = omega arith;
    size = ap length e ∙ length-set u (m + i) _ ∙ w.size;
    cells = put_next (from m) g i u₀ u u' _ w.cells e new;
  }

  -- what stands there
  pub filled-here : {u : List Float} {i : ℕ} → Filled m g n u₀ u i → (k : ℕ) → k < i → m + n ≤ length u₀ → at u (m + k) ≡ g k
  filled-here {i = i} w k h fits = rw w.cells (from_in m g i u₀ nan k h (omega (arith, w.most)))

-- the first number is set before; each other comes of the one before it
module _ {g : ℕ → Float} {n : ℕ} where
  pub filled-first : (u₀ : List Float) {v : Float} → 0 < n → v ≡ g 0 → Filled 0 g n (set u₀ 0 v) (set u₀ 0 v) 1
  filled-first u₀ some e = record {
    most = omega arith;
    size = refl;
    cells = rw e (sym (set-set u₀ 0 (g 0) (g 0)));
  }

  pub filled-by : (next : Float → Float) {u₀ u u' : List Float} {i : ℕ} {v : Float} → Filled 0 g n u₀ u i → 0 < i → i < n → n ≤ length u₀
      → u' ≡ set u i v → v ≡ next (at u (i - 1)) → next (g (i - 1)) ≡ g i → Filled 0 g n u₀ u' (i + 1)
  filled-by next {u₀} {u} {i = i} {v} w some h fits e ev goes =
      let z : 0 + (i - 1) ≡ i - 1 = omega arith in
      let before : at u (i - 1) ≡ g (i - 1) = rw z at (filled-here w (i - 1) (omega arith) (omega arith)) in
      let here : i ≡ 0 + i = omega arith in
      filled_next w h (e ∙ ap (λ (k : ℕ). set u k v) here) (ev ∙ ap next before ∙ goes)

  pub filled-all : (u₀ : List Float) (v : Float) {u : List Float} {i : ℕ} → Filled 0 g n (set u₀ 0 v) u i → n ≤ i → 0 < n → u ≡ put (from 0) g n u₀
  filled-all u₀ v {u} {i} w whole some =
      let same : i ≡ suc (n - 1) = omega (arith, w.most) in
      let all : suc (n - 1) ≡ n = omega arith in
      w.cells ∙ rw same (put-over (from 0) g (n - 1) u₀ v) ∙ ap (λ (k : ℕ). put (from 0) g k u₀) all

-- what is put there is what a line's elimination has, whatever its samples
pub uppers-hold : (upper : (ℕ → Float) → ℕ → Float) (n : ℕ) (u₀ u : List Float) → ((y : ℕ → Float) (i : ℕ) → i < n → upper zero_samples i ≡ upper y i) → u ≡ put (from 0) (upper zero_samples) n u₀ → n ≤ length u₀ → Uppers upper n u
uppers-hold upper n u₀ u same e fits = record {
  room = omega (arith, ap length e ∙ length-put (from 0) (upper zero_samples) n u₀);
  hold = (λ y i h.
      let a : 0 + i ≡ i = omega arith in
      rw e (rw a at (from_in 0 (upper zero_samples) n u₀ nan i h (omega arith))) ∙ same y i h);
}

-- ---- what an axis leaves in scratch

module _ (upper c : (ℕ → Float) → ℕ → Float) (n s total m : ℕ) (xs₀ ss₀ : List Float) (w : LinesWithin n s total m (length xs₀) (length ss₀)) (pos : 0 < total) (looks : Looks c n) where
  -- the last line has its coefficients
  last_line : (b : ℕ) (xs : List Float) → b ≡ first_cell n s (total - 1) → xs ≡ solve_lines nan c n s total xs₀ → (k : ℕ) → k < n → line nan b s xs k ≡ c (line nan (first_cell n s (total - 1)) s xs₀) k
  last_line b xs eb e k h =
      let l : ℕ = total - 1 in
      let cell : ℕ = on_line (first_cell n s l) s k in
      let hs = w.stride-pos in
      let on : line_of n s cell ≡ l = line_of-cell n s hs l k h in
      let place : place_of n s cell ≡ k = place_of-cell n s hs l k h in
      rw (eb, e) (rw (on, place) at (earlier nan c n s hs looks (omega (arith, w.four-points)) xs₀ total w.inside cell (omega arith)))

  -- the upper numbers first, the last line after
  pub axis-leaves : (b : ℕ) (ss₁ xs ss₂ : List Float) → ((y : ℕ → Float) (i : ℕ) → i < n → upper zero_samples i ≡ upper y i) → b ≡ first_cell n s (total - 1)
      → ss₁ ≡ put (from 0) (upper zero_samples) n ss₀ → xs ≡ solve_lines nan c n s total xs₀ → ss₂ ≡ put (from m) (line nan b s xs) n ss₁ → ss₂ ≡ line_leaves nan upper c n s m (total - 1) xs₀ ss₀
  unfolding line_leaves line_scratch
  axis-leaves b ss₁ xs ss₂ same eb e₁ e₂ e₃ =
      e₃ ∙ rw e₁ (put-ext (from m) _ _ n _ (last_line b xs eb e₂)
      ∙ ap (put (from m) (c (line nan (first_cell n s (total - 1)) s xs₀)) n) (put-ext (from 0) _ _ n ss₀ (λ k h. same _ k h)))
