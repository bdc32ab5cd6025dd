-- What is done to a cell x, with z the cell beside it. Assumes nothing.
use Rattle.std.specs.Prelude.{Float}
use Rattle.std.specs.Float.Ieee as Ieee
use Rattle.std.specs.Float.{Format}

-- the difference of the two
abbrev pub differ_cell : Format → Float → Float → Float
differ_cell f x z = Ieee.sub f x z

-- less a multiple
abbrev pub less_cell : Format → Float → Float → Float → Float
less_cell f factor x z = Ieee.sub f x (Ieee.mul f factor z)

-- the same, divided by d
abbrev pub step_cell : Format → Float → Float → Float → Float → Float
step_cell f factor d x z = Ieee.div f (Ieee.sub f x (Ieee.mul f factor z)) d
