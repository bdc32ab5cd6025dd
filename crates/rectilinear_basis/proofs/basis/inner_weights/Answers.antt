use mathlib.Core.Path.{◌∙◌}
use lib.Ieee.{binary64}
use Rattle.rectilinear_basis.proofs.Knots.{six-inner, by-six}
use Rattle.rectilinear_basis.proofs.basis.inner_weights.Goals as goal

pub returns : goal.returns
returns c =
    let ks = c.args.grid.now in
    c.cubic.ensures ∙ by-six binary64 ks c.args.span c.args.x (six-inner binary64 ks c.args.span c.requires.0 c.requires.1)
