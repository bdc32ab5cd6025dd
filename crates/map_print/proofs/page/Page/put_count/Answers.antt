use mathlib.Core.Path.{sym}
use borrow.Author.Rules.{rules}
use Rattle.map_print.proofs.Printing.{Wrote-as, count-1, count-2, count-3, count-4, count-5}
use Rattle.map_print.proofs.page.Page.put_count.Goals as goal

pub returns-then-n-lt10 : goal.returns-then-n-lt10
returns-then-n-lt10 _ c = Wrote-as (sym (count-1 c.args.n (search rules))) c.put_digits.ensures

pub returns-then-n-lt100 : goal.returns-then-n-lt100
returns-then-n-lt100 _ c = Wrote-as (sym (count-2 c.args.n (search rules) (search rules))) c.put_digits-then-n-lt100.ensures

pub returns-then-n-lt1000 : goal.returns-then-n-lt1000
returns-then-n-lt1000 _ c = Wrote-as (sym (count-3 c.args.n (search rules) (search rules))) c.put_digits-then-n-lt1000.ensures

pub returns-then-n-lt10000 : goal.returns-then-n-lt10000
returns-then-n-lt10000 _ c = Wrote-as (sym (count-4 c.args.n (search rules) (search rules))) c.put_digits-then-n-lt10000.ensures

pub returns-else-n-lt10000 : goal.returns-else-n-lt10000
returns-else-n-lt10000 _ c = Wrote-as (sym (count-5 c.args.n (search rules))) c.put_digits-else-n-lt10000.ensures
