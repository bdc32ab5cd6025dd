use mathlib.Core.Path.{sym}
use native.Mathlib.Omega.{arith}
use Rattle.map_print.proofs.Printing.{grown, Wrote-then, Wrote-as, values-text, length-floats_text, length-float_text}
use Rattle.map_print.proofs.page.Page.put_values.Goals as goal

pub put_floats-requires : goal.put_floats-requires
put_floats-requires _ c = omega (arith, c.requires, grown c.put_head.ensures, grown c.push.ensures, grown c.put_float.ensures, length-float_text c.args.value)

pub push-requires-2 : goal.push-requires-2
push-requires-2 _ c =
    omega (
      arith,
      c.requires,
      grown c.put_head.ensures,
      grown c.push.ensures,
      grown c.put_float.ensures,
      length-float_text c.args.value,
      grown c.put_floats.ensures,
      length-floats_text c.args.gradient.now,
    )

pub returns : goal.returns
returns _ c =
    Wrote-as (sym (values-text _ _))
    (Wrote-then c.put_head.ensures (Wrote-then c.push.ensures (Wrote-then c.put_float.ensures (Wrote-then c.put_floats.ensures c.push-2.ensures))))
