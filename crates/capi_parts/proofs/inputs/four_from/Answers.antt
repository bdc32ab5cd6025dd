use lib.Ieee.{of_bits}
use Rattle.capi_parts.specs.Inputs.{four_from}
use Rattle.capi_parts.proofs.inputs.four_from.Goals as goal

pub returns : goal.returns
unfolding four_from of_bits
returns c =
    rw (c.entry_or-4.ensures, c.entry_or-3.ensures, c.entry_or-2.ensures, c.entry_or.ensures)
