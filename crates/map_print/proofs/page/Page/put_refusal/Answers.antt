use Rattle.map_print.proofs.Printing.{Wrote-as, number-alone}
use Rattle.map_print.proofs.page.Page.put_refusal.Goals as goal

pub returns : goal.returns
returns _ c = λ value gradient. Wrote-as (number-alone c.args.number value gradient c.requires.1) c.put_number.ensures
