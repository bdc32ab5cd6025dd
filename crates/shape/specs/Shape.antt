-- The shape of a map: its axes, cells and lines. `dims` lists the lengths of the axes, axis 0 first. Cells are numbered in
-- C order, the last axis fastest. Assumes nothing.
use Rattle.std.specs.Prelude.{Bool, ◌&&◌, List, [], ◌∷◌, ℕ, suc, ◌+◌, ◌*◌, ◌/◌, ◌%◌, ◌<◌, max, length, get_or, take, drop, ltb}

unfoldable pub product : List ℕ → ℕ
product [] = 1
product (n ∷ ns) = n * product ns

-- the length of the longest axis
unfoldable pub longest : List ℕ → ℕ
longest [] = 0
longest (n ∷ ns) = max n (longest ns)

-- the number of cells
abbrev pub size : List ℕ → ℕ
size dims = product dims

-- the number of points on axis a
abbrev pub points : List ℕ → ℕ → ℕ
points dims a = get_or dims a 0

-- every axis has a point
abbrev pub NotEmpty : List ℕ → Type 0
NotEmpty dims = (a : ℕ) → a < length dims → 0 < points dims a

-- how far apart two neighbours on axis a are: the cells that the later axes have, so 1 for the last axis
abbrev pub stride : List ℕ → ℕ → ℕ
stride dims a = product (drop (suc a) dims)

-- how many lines axis a has: the cells that the other axes have
abbrev pub lines : List ℕ → ℕ → ℕ
lines dims a = product (take a dims) * stride dims a

-- is there a line l of axis a?
abbrev pub is_line : List ℕ → ℕ → ℕ → Bool
is_line dims a l = ltb a (length dims) && ltb l (lines dims a)

-- ---- an axis of n points that are s apart

-- the first cell of line l: l % s counts the later axes, l / s the earlier ones
unfoldable pub first_cell : ℕ → ℕ → ℕ → ℕ
first_cell n s l = l / s * (n * s) + l % s

-- the line that runs through a cell, and the cell's place on it
unfoldable pub line_of : ℕ → ℕ → ℕ → ℕ
line_of n s cell = cell / (n * s) * s + cell % s

unfoldable pub place_of : ℕ → ℕ → ℕ → ℕ
place_of n s cell = cell / s % n

-- ---- axis a

-- the first cell of line l of axis a
abbrev pub first : List ℕ → ℕ → ℕ → ℕ
first dims a l = first_cell (points dims a) (stride dims a) l

-- its cell at place i, for i below the axis's length
abbrev pub cell_at : List ℕ → ℕ → ℕ → ℕ → ℕ
cell_at dims a l i = first dims a l + i * stride dims a

-- the line of axis a that runs through a cell, and the cell's place on it
abbrev pub line_at : List ℕ → ℕ → ℕ → ℕ
line_at dims a cell = line_of (points dims a) (stride dims a) cell

abbrev pub place_at : List ℕ → ℕ → ℕ → ℕ
place_at dims a cell = place_of (points dims a) (stride dims a) cell
