-- Demand 1, in one style for every call: the conditions of a call in the order of its checks, each with the number that the call
-- is refused with where it does not hold. Assumes nothing.
--     count, lens      the axis count and the four lengths of a shape; its axes are `take count lens`
use Rattle.std.specs.Prelude.{◌≡◌, ◌↔◌, List, [], ◌∷◌, ℕ, ◌*◌, ◌≤◌, ◌<◌, length, take, get_or}
use Rattle.shape.specs.Shape.{longest, size, lines}
use Rattle.shape.specs.Checks.{most_points}

pub record Condition : Type 1 where
  pub number : ℕ
  pub holds : Type 0

-- the call is refused with this number unless this holds
abbrev pub refuse_unless : ℕ → Type 0 → Condition
refuse_unless number holds = record { number = number; holds = holds }

-- the answer: 0, accepted, where all conditions hold, else the number of the first that does not
pub data Outcome : List Condition → ℕ → Type 1 where
  accepted : Outcome [] 0
  refused : {c : Condition} {cs : List Condition} → (c.holds → ⊥) → Outcome (c ∷ cs) c.number
  passed : {c : Condition} {cs : List Condition} {answer : ℕ} → c.holds → Outcome cs answer → Outcome (c ∷ cs) answer

-- The statement for every call, of the answer that its contract gives: accepted exactly where all conditions hold, each refusal
-- exactly where its condition is the first that does not.
abbrev pub Total : ℕ → List Condition → Type 1
Total given conditions = (answer : ℕ) → (answer ≡ given) ↔ Outcome conditions answer

-- ---- conditions that several calls share

-- one to four axes; at least four points on each; at most 16,777,216 points
abbrev pub shape_conditions : ℕ → List ℕ → List Condition
shape_conditions count lens =
    refuse_unless 1 ((0 < count) × (count ≤ 4))
    ∷ refuse_unless 2 ((a : ℕ) → a < count → 4 ≤ get_or lens a 0)
    ∷ refuse_unless 3 (size (take count lens) ≤ most_points)
    ∷ []

-- a buffer that is to hold `wanted` elements
abbrev pub length_condition : ℕ → ℕ → Condition
length_condition wanted given = refuse_unless 2 (given ≡ wanted)

-- scratch has twice the longest axis
abbrev pub scratch_condition : List ℕ → ℕ → Condition
scratch_condition dims scratch = refuse_unless 4 (2 * longest dims ≤ scratch)

-- there is such an axis and such a line
abbrev pub line_condition : List ℕ → ℕ → ℕ → Condition
line_condition dims a l = refuse_unless 7 ((a < length dims) × (l < lines dims a))
