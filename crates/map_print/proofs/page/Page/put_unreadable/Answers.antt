use native.Mathlib.Omega.{arith}
use Rattle.map_print.specs.Print.{unreadable_line}
use Rattle.map_print.proofs.Printing.{grown, Wrote-then, length-count_text}
use Rattle.map_print.proofs.page.Page.put_unreadable.Goals as goal

pub push-requires : goal.push-requires
push-requires _ c = omega (arith, c.requires.0, grown c.put_head.ensures, grown c.put_count.ensures, length-count_text c.args.k)

pub returns : goal.returns
unfolding unreadable_line
returns _ c = Wrote-then c.put_head.ensures (Wrote-then c.put_count.ensures c.push.ensures)
