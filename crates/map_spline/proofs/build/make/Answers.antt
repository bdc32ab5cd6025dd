use Rattle.map_spline.proofs.Making.{lent-regular, lent-rectilinear, makes-regular, makes-rectilinear}
use Rattle.map_spline.proofs.build.make.Goals as goal

pub make_regular-requires : goal.make_regular-requires
make_regular-requires c = lent-regular c.args.line _ _ _ c.requires c.if-line.true

pub returns-then-line : goal.returns-then-line
returns-then-line c = makes-regular c.args.line _ _ _ _ _ c.if-line.true c.make_regular.ensures

pub make_rectilinear-requires : goal.make_rectilinear-requires
make_rectilinear-requires c = lent-rectilinear c.args.line _ _ _ c.requires c.if-line.false

pub returns-else-line : goal.returns-else-line
returns-else-line c = makes-rectilinear c.args.line _ _ _ _ _ c.if-line.false c.make_rectilinear.ensures
