-- Which knots pass the increase check, by computing. Assumes nothing.
use mathlib.Core.Path.{◌≡◌, refl}
use mathlib.Core.Bool.{Bool, true, false}
use mathlib.Core.List.{List, [], ◌∷◌, map}
use lib.Ieee.{Float, nan, inf, lt}
use Rattle.multibspline.specs.Numbers.{f0, f1, f2}
use Rattle.knots.specs.Knots.{rises}

-- knots, and whether they pass: infinite ends do; a NaN does not, at either end or within; two equal ones do not
abbrev pub checks : List (List Float × Bool)
checks =
    (inf true ∷ f0 ∷ f1 ∷ inf false ∷ [], true)
    ∷ (nan ∷ f0 ∷ f1 ∷ f2 ∷ [], false)
    ∷ (f0 ∷ nan ∷ f1 ∷ f2 ∷ [], false)
    ∷ (f0 ∷ f1 ∷ f2 ∷ nan ∷ [], false)
    ∷ (f0 ∷ f1 ∷ f1 ∷ f2 ∷ [], false)
    ∷ []

pub which-pass : map (λ row. rises row.0) checks ≡ map (λ row. row.1) checks
unfolding rises lt
which-pass = refl
