-- Cells of a list, picked out by a rule for their places: reading them, and the list with them set. A line is the cells
-- base, base + stride, base + 2 stride, .. Assumes nothing.
--     o        the element read past the end of a list (never, in what is proved)
use Rattle.std.specs.Prelude.{ℕ, zero, suc, ◌+◌, ◌*◌, List, get_or, set}

-- xs with cell `place i` set to `g i` for each i below n
abbrev pub put : {A : Type 0} → (ℕ → ℕ) → (ℕ → A) → ℕ → List A → List A
put place g zero xs = xs
put place g (suc n) xs = set (put place g n xs) (place n) (g n)

-- the places m, m + 1, m + 2, ..
abbrev pub from : ℕ → ℕ → ℕ
from m i = m + i

-- the places of a line
abbrev pub on_line : ℕ → ℕ → ℕ → ℕ
on_line base stride i = base + i * stride

-- entry i of a line
abbrev pub line : {A : Type 0} → A → ℕ → ℕ → List A → ℕ → A
line o base stride xs i = get_or xs (on_line base stride i) o

-- xs with the n entries of a line set to g 0, g 1, ..
abbrev pub write_line : {A : Type 0} → ℕ → ℕ → (ℕ → A) → ℕ → List A → List A
write_line base stride g n xs = put (on_line base stride) g n xs
