-- Demand 3 on a regular grid. Assumes nothing.
use mathlib.Core.List.{[]}
use lib.ListN.{take}
use lib.Ieee.{Float, nan}
use Rattle.shape.specs.Shape.{points}
use Rattle.regular.specs.Fit.{solve}
use Rattle.regular_lines.proofs.Rows.{looks-coefficient}
use Rattle.book.proofs.Order.{order-never-shows}
use Rattle.stepwise.specs.Regular.{RegularOrderNeverShows}

pub regular-order-never-shows : RegularOrderNeverShows
regular-order-never-shows f count lens four samples coefs ledger scratch e calls =
    order-never-shows Float nan (solve f (take count lens)) count lens [] [] four tt tt
    (λ a ha h. looks-coefficient f (points (take count lens) a) h) samples coefs ledger scratch e calls
