use borrow.Author.Tests.{lt-ltb, le-ltb}
use Rattle.capi_parts.specs.Inputs.{lens_of}
use Rattle.capi_parts.proofs.inputs.lens_of.Goals as goal

pub returns-then-dims-gt4 : goal.returns-then-dims-gt4
unfolding lens_of
returns-then-dims-gt4 c = rw (lt-ltb _ _ c.if-dims-gt4.true)

pub returns : goal.returns
unfolding lens_of
returns c =
    rw (le-ltb _ _ c.if-dims-gt4.false, c.entry_or-4.ensures, c.entry_or-3.ensures, c.entry_or-2.ensures, c.entry_or.ensures)
