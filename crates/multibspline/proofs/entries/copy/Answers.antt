use Rattle.multibspline.proofs.Sweeps.{same-done}
use Rattle.multibspline.proofs.entries.copy.Goals as goal

pub returns : goal.returns
returns c = search same-done
