use Rattle.multibspline.proofs.Sweeps.{sub-step, sub-line, sub-done}
use Rattle.multibspline.proofs.back.back_rows.Goals as goal

pub loop-i-preserved : goal.loop-i-preserved
loop-i-preserved c = search sub-step

pub returns : goal.returns
returns c = record { coeffs_after = search sub-line; scratch_after = search sub-done }
