use native.Mathlib.Omega.{arith}
use lib.Ieee.{binary64}
use Rattle.rectilinear_basis.proofs.Knots.{six-knots, six-inner}
use Rattle.rectilinear_basis.proofs.basis.span_knots.Goals as goal

pub returns-then-span-grid : goal.returns-then-span-grid
returns-then-span-grid c =
    six-inner binary64 c.args.grid.now c.args.span (omega arith) (omega arith)

pub returns : goal.returns
returns c =
    let a = c.args in
    six-knots binary64 a.grid.now a.span c.knot-a.ensures c.knot-b.ensures c.knot-c.ensures c.knot-d.ensures c.knot-e.ensures c.knot-f.ensures
