-- A place that was found, and the weights in an inner span. For every format. Assumes nothing.
use Rattle.std.proofs.Common.{◌≡◌, ◌∙◌, sym, ap, Bool, Some, ℕ, ◌+◌, ◌≤◌, ◌<◌, Float}
use Rattle.std.specs.Float.{Format}
use Rattle.multibspline.specs.declared.saturation.Saturation.{Saturation}
use Rattle.multibspline.specs.declared.saturation.Saturation.TheVariants.{None}
use Rattle.regular_weights.specs.Place.{get_loc}
use Rattle.regular_weights.specs.Weights.{cubic_bspline_weights, interp_weights}
use Rattle.regular_weights.specs.declared.place.Loc.{Loc}
use Rattle.regular_weights.proofs.Cells.{origin-room}
use Rattle.regular_weights.proofs.Inner.{inner-weights}
use Rattle.evaluation.specs.Axis.{FoundAt}
use Rattle.regular_axis.specs.Axis.{is_unrepresentable, origin_at, weights_at, regular_axis, SeatAt}

module _ (f : Format) {n : ℕ} (start step : Float) (linear : Bool) (x : Float) where
  pub found-at : 4 ≤ n → {loc : Loc} → Some loc ≡ get_loc f n start step x → FoundAt (regular_axis f n start step linear) x loc.origin
  found-at four {loc} e =
      let o : origin_at (get_loc f n start step x) ≡ loc.origin = ap origin_at (sym e) in
      let room : loc.origin + 3 < n = origin-room f start step x four (sym e) in
      record { placed = ap is_unrepresentable (sym e); is = sym o; room = room }

  pub inner-seat : {sat : Saturation} {t : Float} → SeatAt f n start step x sat t → sat ≡ None → cubic_bspline_weights f t ≡ weights_at f start step linear x (get_loc f n start step x)
  inner-seat {sat} {t} w inner =
      inner-weights f linear t
      ∙ ap (λ (s : Saturation). interp_weights f linear s t) (sym inner)
      ∙ ap (interp_weights f linear sat) w.past
      ∙ sym (ap (weights_at f start step linear x) w.place)
