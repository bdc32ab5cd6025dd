use mathlib.Core.Path.{sym}
use lib.Ieee.{of_bits, div}
use Rattle.float_text.proofs.Patterns.{nan_pattern, plain-pattern}
use Rattle.float_text.proofs.float_of.Goals as goal

pub returns-then-bits-gt9218868437227405312 : goal.returns-then-bits-gt9218868437227405312
unfolding of_bits div
returns-then-bits-gt9218868437227405312 c = sym (nan_pattern c.args.bits c.if-bits-gt9218868437227405312.true)

pub float_from_bits-result : goal.float_from_bits-result
float_from_bits-result c = plain-pattern _ c.if-bits-gt9218868437227405312.false
