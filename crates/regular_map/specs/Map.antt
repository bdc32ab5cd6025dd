-- What the functions that build a regular map leave. Assumes nothing.
use Rattle.std.specs.Prelude.{Bool, false, Result, List, [], ◌∷◌, ℕ, Float}
use Rattle.std.specs.Float.{nan}
use Rattle.multibspline.specs.Numbers.{f0}
use Rattle.evaluation.specs.Axes.{in_use, zeros}
use Rattle.evaluation.specs.Built.{BuiltFrom}
use Rattle.shape.specs.declared.answers.Refusal.{Refusal}
use Rattle.regular_blocks.specs.Map.{RegularMap}
use Rattle.regular_map.specs.Records.{map_of}
use Rattle.regular_map.specs.declared.record.MultiBsplineRegular.{MultiBsplineRegular}

-- the map that building makes
unfoldable pub made : ℕ → List ℕ → List Float → List Float → Bool → RegularMap
made count lens starts steps linear = record {
  count = count;
  lens = in_use 0 0 count lens;
  starts = in_use nan f0 count starts;
  steps = in_use nan f0 count steps;
  linear = linear;
}

-- nothing but zeros
abbrev pub blank : RegularMap
blank = record { count = 0; lens = 0 ∷ 0 ∷ 0 ∷ 0 ∷ []; starts = zeros; steps = zeros; linear = false }

-- what a function that builds a map hands out, and answers so
abbrev pub RegularBuilt : ℕ → ℕ → List ℕ → List Float → List Float → Bool → Result MultiBsplineRegular Refusal → Type 0
RegularBuilt expected count lens starts steps linear built = BuiltFrom map_of expected (made count lens starts steps linear) built
