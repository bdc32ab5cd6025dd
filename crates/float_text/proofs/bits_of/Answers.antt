use lib.Ieee.{to_bits}
use Rattle.float_text.proofs.Patterns.{is-nan, no_nan}
use Rattle.float_text.proofs.bits_of.Goals as goal

pub returns-then-x : goal.returns-then-x
unfolding to_bits
returns-then-x c = rw (is-nan _ c.if-x.true)

pub float_to_bits-result : goal.float_to_bits-result
float_to_bits-result c = no_nan _ c.if-x.false
