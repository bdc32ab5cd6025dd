-- The checks of a call, and their fixed order. The first check that fails gives the call's answer. Assumes nothing.
--     count, lens      the axis count and the four lengths of a shape; its axes are `take count lens`
--     grid, coefs, ..  the lengths of the buffers that the call is lent
use Rattle.std.specs.Prelude.{Bool, false, cond, not, ◌||◌, List, [], ◌∷◌, ◌++◌, ℕ, ◌*◌, ◌<◌, eqb, ltb, take}
use Rattle.shape.specs.Shape.{longest, size}

-- a check: whether it fails, and the number that it then refuses with
pub record Check : Type 0 where
  pub number : ℕ
  pub fails : Bool

abbrev pub refuse : ℕ → Bool → Check
refuse number fails = record { number = number; fails = fails }

-- every number is above 0, the answer of an accepted call
abbrev pub Positive : List Check → Type 0
Positive [] = Unit {0}
Positive (c ∷ cs) = (0 < c.number) × Positive cs

-- the number of the first check that fails; 0, accepted, where none does
unfoldable pub first_refusal : List Check → ℕ
first_refusal [] = 0
first_refusal (c ∷ cs) = cond c.fails c.number (first_refusal cs)

-- ---- the checks

-- the most points that a map may have
abbrev pub most_points : ℕ
most_points = 16777216

-- an axis has fewer than four points
unfoldable pub any_short : List ℕ → Bool
any_short [] = false
any_short (n ∷ ns) = ltb n 4 || any_short ns

-- one to four axes, of at least four points each, and `most` points in all
abbrev pub limit_checks : ℕ → ℕ → List ℕ → List Check
limit_checks most count dims =
    refuse 1 (eqb count 0 || ltb 4 count)
    ∷ refuse 2 (any_short dims)
    ∷ refuse 3 (ltb most (size dims))
    ∷ []

abbrev pub shape_checks : ℕ → List ℕ → List Check
shape_checks count lens = limit_checks most_points count (take count lens)

-- a buffer that is to hold `wanted` elements
abbrev pub length_check : ℕ → ℕ → List Check
length_check wanted given = refuse 2 (not (eqb given wanted)) ∷ []

-- scratch may be longer than twice the longest axis
abbrev pub scratch_check : List ℕ → ℕ → List Check
scratch_check dims scratch = refuse 4 (ltb scratch (2 * longest dims)) ∷ []

-- is the shape accepted?
unfoldable pub shape_accepted : ℕ → List ℕ → Bool
shape_accepted count lens = eqb (first_refusal (shape_checks count lens)) 0

-- ---- the calls that fit a map, or a part of it

-- buffers that are each to hold `wanted` elements
abbrev pub length_checks : ℕ → List ℕ → List Check
length_checks wanted [] = []
length_checks wanted (given ∷ more) = length_check wanted given ++ length_checks wanted more

-- Their order: the shape; the joined grid; the coefficients; the ledger; the knots; the samples; scratch; the line. Of the grid, the
-- knots and the line the checks are given, of the buffers the lengths; what a call has not is an empty list.
abbrev pub fitting_checks : ℕ → List ℕ → List Check → List Check → ℕ → List ℕ → List ℕ → ℕ → List Check → List Check
fitting_checks count lens grid knots coefs ledger samples scratch line =
    let points = size (take count lens) in
    shape_checks count lens
    ++ (grid
    ++ (length_check points coefs
    ++ (length_checks points ledger ++ (knots ++ (length_checks points samples ++ (scratch_check (take count lens) scratch ++ line))))))

-- `coefficients` on a regular grid
unfoldable pub regular_fit_checks : ℕ → List ℕ → ℕ → ℕ → ℕ → List Check
regular_fit_checks count lens samples coefs scratch = fitting_checks count lens [] [] coefs [] (samples ∷ []) scratch []
