use mathlib.Core.Path.{refl}
use native.Mathlib.Omega.{arith}
use Rattle.ledger.proofs.Stages.{answer-small}
use Rattle.stepwise.proofs.Runs.{one-ran}
use Rattle.stepwise.proofs.list.run_one.Goals as goal

pub overflow_cast-answers : goal.overflow_cast-answers
overflow_cast-answers g c = omega (arith, c.answer_number.ensures, answer-small c.call_ready-answer.result)

pub returns : goal.returns
returns g c = one-ran c.call_ready-answer.ensures c.answer_number.ensures refl
