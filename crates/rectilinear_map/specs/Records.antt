-- The code's records, as the definitions see them: the only definitions here that are tied to a width. Assumes nothing.
use Rattle.std.specs.Prelude.{◌≡◌, Bool, Result, Ok, Err, List, ℕ, length, Float}
use Rattle.std.specs.Float.{Format}
use Rattle.shape.specs.Checks.{first_refusal}
use Rattle.shape.specs.Refusal.{refusal_number}
use Rattle.shape.specs.declared.answers.Refusal.{Refusal}
use Rattle.knots.specs.declared.joined.Joined.{Joined}
use Rattle.evaluation.specs.Built.{BuiltFrom}
use Rattle.rectilinear.specs.Fit.{rectilinear_fit_checks}
use Rattle.rectilinear_blocks.specs.Map.{RectilinearMap}
use Rattle.rectilinear_blocks.specs.Ghosts.{ghosts}
use Rattle.rectilinear_map.specs.Map.{made}
use Rattle.rectilinear_map.specs.declared.record.MultiBsplineRectilinear.{MultiBsplineRectilinear}

-- the map that a record stands for
abbrev pub map_of : MultiBsplineRectilinear → RectilinearMap
map_of r = record { count = r.count; lens = r.dims; low = ghosts r.low_ghost_coeffs; high = ghosts r.high_ghost_coeffs; linear = r.linearize_extrapolation }

-- the joined grid that is lent, with its axes, where the answer of a call's checks, the shape's among them, is 0; else that answer
abbrev pub JoinedOnce : ℕ → ℕ → List ℕ → List Float → Result Joined Refusal → Type 0
JoinedOnce answer count lens grid (Ok joined) = (answer ≡ 0) × ((joined.axes.count ≡ count) × ((joined.axes.dims ≡ lens) × (joined.knots.now ≡ grid)))
JoinedOnce answer count lens grid (Err refusal) = refusal_number refusal ≡ answer

-- what a function that builds a map hands out, and answers so
abbrev pub BuiltAs : Format → ℕ → ℕ → List ℕ → List Float → Bool → Result MultiBsplineRectilinear Refusal → Type 0
BuiltAs f expected count lens grid linear built = BuiltFrom map_of expected (made f count lens grid linear) built

-- from samples: it answers what the fit answers
abbrev pub BuiltByFit : Format → ℕ → List ℕ → List Float → Bool → List Float → List Float → List Float → Result MultiBsplineRectilinear Refusal → Type 0
BuiltByFit f count lens grid linear samples coefs scratch built =
    BuiltAs f (first_refusal (rectilinear_fit_checks count lens grid (length samples) (length coefs) (length scratch))) count lens grid linear built
