use Rattle.float_text.proofs.Reading.{Reading-fits, Reading-mul, Reading-step, Reading-bad, Reading-done}
use Rattle.float_text.proofs.read_digits.Goals as goal

pub returns-then-d-base : goal.returns-then-d-base
returns-then-d-base c = search Reading-bad

pub overflow_mul-n : goal.overflow_mul-n
overflow_mul-n c = record { fits = Reading-mul _ _ _ _ c.digit-d.result c.loop-b.invariant c.loop-b-test.true c.if-d-base.false c.requires }

pub overflow_add-n : goal.overflow_add-n
overflow_add-n c = record { fits = search Reading-fits }

pub loop-b-preserved : goal.loop-b-preserved
loop-b-preserved c = search Reading-step

pub returns : goal.returns
returns c = search Reading-done
