use Rattle.float_text.proofs.Writing.{Printing-weight, Printing-digit, Printing-step, Printing-done}
use Rattle.float_text.proofs.put_digits.Goals as goal

pub nonzero_div-left : goal.nonzero_div-left
nonzero_div-left c = search Printing-weight

pub letter-requires : goal.letter-requires
letter-requires c = search Printing-digit

pub nonzero_rem-left : goal.nonzero_rem-left
nonzero_rem-left c = search Printing-weight

pub loop-place-preserved : goal.loop-place-preserved
loop-place-preserved c = search Printing-step

pub returns : goal.returns
returns c = search Printing-done
