use Rattle.std.specs.Float.{nan}
use lib.Ieee.{of_bits}
use Rattle.regular_map.specs.Map.{made}
use Rattle.regular_map.proofs.build.accepted.Goals as goal

pub returns : goal.returns
unfolding made of_bits
returns c = rw (c.used_of-3.ensures nan, c.used_of-2.ensures nan, c.used_of.ensures 0)
