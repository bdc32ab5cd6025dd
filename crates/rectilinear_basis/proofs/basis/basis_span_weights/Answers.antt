use mathlib.Core.Path.{◌∙◌}
use lib.Ieee.{binary64}
use Rattle.rectilinear_basis.proofs.Knots.{six-knots, by-six}
use Rattle.rectilinear_basis.proofs.basis.basis_span_weights.Goals as goal

pub returns : goal.returns
returns c =
    let a = c.args in
    c.cubic.ensures
    ∙ by-six binary64 a.grid.now a.span a.x
    (six-knots binary64 a.grid.now a.span c.knot-3.ensures c.knot-2.ensures c.knot.ensures c.knot-4.ensures c.knot-5.ensures c.knot-6.ensures)
