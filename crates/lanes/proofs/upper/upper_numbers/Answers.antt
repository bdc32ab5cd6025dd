use mathlib.Core.Path.{◌≡◌, refl, ap, ◌∙◌}
use Prim.Native.Nat.{ℕ, ◌+◌, ◌-◌}
use native.Mathlib.Omega.{arith}
use lib.ListN.{length}
use lib.Ieee.{binary64}
use Rattle.shape.specs.Cells.{put, from}
use Rattle.shape.proofs.Cells.{length-put}
use Rattle.multibspline.specs.Thomas.{Left, at}
use Rattle.lines.specs.Rows.{upper_number}
use Rattle.lanes.specs.Lanes.{zero_samples}
use Rattle.lanes.specs.Groups.{upper_from}
use Rattle.lanes.proofs.Groups.{Filled, filled-by}
use Rattle.lanes.proofs.Systems.{upper_last}
use Rattle.lanes.proofs.upper.upper_numbers.Goals as goal

pub returns : goal.returns
returns g c =
    let s = g.S.System.rows c.args.system in
    let four = g.met.S.System.four_points c.args.system in
    let upper = upper_number binary64 s zero_samples in
    let whole : s.points - 1 + 1 ≡ s.points = omega (arith, four) in
    let two : s.points - 1 - 1 ≡ s.points - 2 = omega arith in
    let before : Filled 0 upper s.points c.args.upper.now c.inner_uppers.new.upper (s.points - 1) = record {
      most = omega arith;
      size = ap length c.inner_uppers.ensures ∙ length-put (from 0) upper (s.points - 1) c.args.upper.now;
      cells = c.inner_uppers.ensures;
    } in
    let last =
    (rw c.points-last.ensures at c.upper_from.ensures)
    ∙ ap (λ (left : Left). upper_from binary64 left (at c.inner_uppers.new.upper (s.points - 1 - 1))) c.last_row.ensures.left in
    let goes = upper_last binary64 s four zero_samples in
    rw c.points-last.ensures
    ((filled-by (upper_from binary64 s.last) before (omega (arith, four)) (omega (arith, four)) c.requires refl last (rw two goes)).cells
    ∙ ap (λ (n : ℕ). put (from 0) upper n c.args.upper.now) whole)
