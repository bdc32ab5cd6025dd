use Prim.Native.Nat.{◌+◌, ◌-◌}
use lib.Ieee.{binary64}
use Rattle.multibspline.specs.Thomas.{at}
use Rattle.multibspline.specs.Scratch.{solved}
use Rattle.multibspline.proofs.Sweeps.{back_last, line-down}
use Rattle.multibspline.proofs.back.back_substitute.Goals as goal

pub returns-clause-coeffs_after : goal.returns-clause-coeffs_after
returns-clause-coeffs_after c =
    let a = c.args in
    line-down a.along.base a.along.stride (solved binary64 a.along.n a.along.longest a.scratch.now) a.along.n a.coeffs.now _ _ _ c.requires.inside.0 c.back_rows.ensures.coeffs_after
    (back_last binary64 (at a.scratch.now) (λ k. at a.scratch.now (a.along.longest + k)) (a.along.n - 1)) c.set_entry.ensures
