use mathlib.Core.Path.{refl}
use lib.Ieee.{binary64}
use lib.ListN.{length}
use Rattle.multibspline.specs.Numbers.{f0}
use Rattle.evaluation.specs.ByAxis.{spline_of}
use Rattle.capi_parts.proofs.Evaluated.{wrote_value}
use Rattle.capi_parts.proofs.calls.value_at.Goals as goal

pub returns : goal.returns
returns g c =
    let a = c.args in
    wrote_value (spline_of binary64 (g.L.Lent.view a.lent) (g.L.Lent.checks a.lent (length a.coeffs.now)) a.coeffs.now) a.x.now refl c.interp_one.ensures (c.put.ensures f0)
