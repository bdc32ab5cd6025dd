-- What the numbering of `Shape` means, for a reader who would rather count: a cell is its places on the axes, a line the
-- places on the other axes. Only the theorems of proofs/Numbering.antt use this. Assumes nothing.
use Rattle.std.specs.Prelude.{cond, List, [], ◌∷◌, ℕ, zero, suc, ◌+◌, ◌*◌, ◌/◌, ◌%◌, eqb, length}
use Rattle.shape.specs.Shape.{product, points, stride}

-- a cell's places on the axes, axis 0 first
unfoldable pub places : List ℕ → ℕ → List ℕ
places [] cell = []
places (n ∷ ns) cell = cell / product ns % n ∷ places ns cell

-- which of all places these are, the last axis fastest
unfoldable pub count : List ℕ → List ℕ → ℕ
count [] ps = 0
count (n ∷ ns) [] = 0
count (n ∷ ns) (p ∷ ps) = p * product ns + count ns ps

-- all but entry a
unfoldable pub without : ℕ → List ℕ → List ℕ
without a [] = []
without zero (x ∷ xs) = xs
without (suc a) (x ∷ xs) = x ∷ without a xs

-- the Rust's `line_base_index`, written out: the axes below d are still to visit, the last of them first, all but axis a
unfoldable pub base_index_from : List ℕ → ℕ → ℕ → ℕ → ℕ → ℕ
base_index_from dims a zero rem base = base
base_index_from dims a (suc d) rem base =
    cond (eqb d a)
    (base_index_from dims a d rem base)
    (base_index_from dims a d (rem / points dims d) (base + rem % points dims d * stride dims d))

unfoldable pub line_base_index : List ℕ → ℕ → ℕ → ℕ
line_base_index dims a line = base_index_from dims a (length dims) line 0
