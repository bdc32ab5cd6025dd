use native.Mathlib.Omega.{arith}
use Rattle.map_print.specs.Print.{total_line}
use Rattle.map_print.proofs.Printing.{grown, Wrote-then, length-count_text}
use Rattle.map_print.proofs.page.Page.put_totals.Goals as goal

pub push-requires : goal.push-requires
push-requires _ c = omega (arith, c.requires.0, grown c.put_head.ensures, grown c.put_count.ensures, length-count_text c.args.queries)

pub put_count-requires-2 : goal.put_count-requires-2
put_count-requires-2 _ c =
    omega (arith, c.requires, grown c.put_head.ensures, grown c.put_count.ensures, grown c.push.ensures, length-count_text c.args.queries)

pub push-requires-2 : goal.push-requires-2
push-requires-2 _ c =
    omega (
      arith,
      c.requires.0,
      grown c.put_head.ensures,
      grown c.put_count.ensures,
      grown c.push.ensures,
      grown c.put_count-2.ensures,
      length-count_text c.args.queries,
      length-count_text c.args.outside,
    )

pub returns : goal.returns
unfolding total_line
returns _ c = Wrote-then c.put_head.ensures (Wrote-then c.put_count.ensures (Wrote-then c.push.ensures (Wrote-then c.put_count-2.ensures c.push-2.ensures)))
