use lib.Ieee.{binary64, nan}
use Rattle.shape.proofs.Loops.{AxesSolved}
use Rattle.fits.specs.Fit.{solve, upper}
use Rattle.fits.proofs.by_axes.solve_axes.Given as goal

abbrev pub invariant-loop-axis : goal.invariant-loop-axis
invariant-loop-axis g l =
    let rows = g.G.Grid.rows l.grid in
    AxesSolved nan (upper binary64 rows) (solve binary64 rows) (g.G.Grid.dims l.grid) l.initial.coeffs l.initial.scratch l.coeffs l.scratch l.axis
