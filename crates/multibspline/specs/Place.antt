-- What is taken at a place on an axis, by the axis's flag, on either grid. Assumes nothing.
use Rattle.std.specs.Prelude.{Bool, false}
use Rattle.multibspline.specs.declared.saturation.Saturation.{Saturation}
use Rattle.multibspline.specs.declared.saturation.Saturation.TheVariants.{None, InsideLow, OutsideLow, InsideHigh, OutsideHigh}

-- `inner` in an inner span; past the span beside an end what that end gives, in a straight line or not: a place inside is never
-- extended in a straight line
abbrev pub by_place : {A : Type 0} → Bool → A → (Bool → A) → (Bool → A) → Saturation → A
by_place linear inner low high None = inner
by_place linear inner low high InsideLow = low false
by_place linear inner low high OutsideLow = low linear
by_place linear inner low high InsideHigh = high false
by_place linear inner low high OutsideHigh = high linear
