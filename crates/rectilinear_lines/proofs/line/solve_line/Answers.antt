use mathlib.Core.Path.{refl}
use lib.ListN.{length}
use Rattle.multibspline.proofs.Line.{line-fits}
use Rattle.rectilinear_lines.proofs.line.solve_line.Goals as goal

pub invariant_of-axis : goal.invariant_of-axis
invariant_of-axis c =
    let a = c.args in
    let fits = line-fits a.base a.stride (length a.grid.now) a.longest (length a.coeffs.now) (length a.scratch.now) c.in_ok-check_line.ensures in
    record { four = fits.0.0 }

pub solve_checked-requires : goal.solve_checked-requires
solve_checked-requires c =
    let a = c.args in
    let fits = line-fits a.base a.stride (length a.grid.now) a.longest (length a.coeffs.now) (length a.scratch.now) c.in_ok-check_line.ensures in
    record { of = (refl, fits.0.1); room = fits.1 }
