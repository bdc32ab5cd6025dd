use Rattle.ledger.proofs.Stages.{scratch-short, scratch-enough}
use Rattle.ledger.proofs.shared.check_scratch.Goals as goal

pub returns-then-scratch-scratch_len : goal.returns-then-scratch-scratch_len
returns-then-scratch-scratch_len c = scratch-short _ _ _ c.scratch_len.ensures c.if-scratch-scratch_len.true

pub returns : goal.returns
returns c = scratch-enough _ _ _ c.scratch_len.ensures c.if-scratch-scratch_len.false
