use mathlib.Core.Path.{◌∙◌}
use native.Mathlib.Omega.{arith}
use Rattle.map_work.proofs.FirstThree.{row-regular, row-rectilinear, row_small}
use Rattle.map_work.proofs.first_lines.ShapedLine.row_len.Goals as goal

pub returns-then-line-clause-floats : goal.returns-then-line-clause-floats
returns-then-line-clause-floats c = row-regular c.args.self.line c.args.self.shaped c.if-line.true

pub returns-clause-floats : goal.returns-clause-floats
returns-clause-floats c = c.grid_len.ensures ∙ row-rectilinear c.args.self.line c.args.self.shaped c.if-line.false

pub returns-clause-few : goal.returns-clause-few
returns-clause-few c = let a = c.args.self in omega (arith, c.grid_len.ensures, row-rectilinear a.line a.shaped c.if-line.false, row_small a.line a.shaped)
