use Rattle.float_text.proofs.Writing.{Room-done}
use Rattle.float_text.proofs.write_bits.Goals as goal

pub returns : goal.returns
returns c = Room-done _ _ _ c.has_room.ensures _ _ c.if-not-has_room.false c.put_digits.ensures
