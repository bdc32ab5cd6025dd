use mathlib.Core.Path.{ap, ◌∙◌}
use Rattle.shape.proofs.Accepted.{AxisIs, axes-are, axis-within}
use Rattle.lines.specs.Rows.{Rows}
use Rattle.lanes.proofs.Groups.{axis-whole}
use Rattle.fits.proofs.by_axes.solve_axis.Goals as goal

pub solve_lines-requires : goal.solve_lines-requires
solve_lines-requires g c =
    let axes = c.axes-axes.result in
    let same = c.axes-axes.ensures.dims in
    let four = c.axes-axes.ensures.four in
    let h = rw (← same, axes-are axes.count axes.dims four axes.usable) at c.requires.is_axis in
    let points = ap (λ (r : Rows). r.points) c.axis.ensures ∙ g.met.G.Grid.as_many_points c.args.grid c.args.axis c.requires.is_axis in
    let x : AxisIs axes.count axes.dims c.args.axis (g.G.Axis.System.rows c.axis.result).points c.stride.result c.lines.result c.longest.result =
    record { the-points = rw same points; the-stride = c.stride.ensures; the-lines = c.lines.ensures; the-longest = c.longest.ensures } in
    let inside = axis-within axes.count axes.dims four axes.usable c.args.axis h x (rw same c.requires.room.0) (rw same c.requires.room.1) in
    record { within = inside; whole = axis-whole x inside.1.stride-pos }
