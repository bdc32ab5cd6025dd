use Rattle.fits.proofs.by_axes.solve_found.Goals as goal

pub returns-clause-scratch_after : goal.returns-clause-scratch_after
returns-clause-scratch_after g c = rw c.axis.ensures at c.solve_checked.ensures.scratch_after
