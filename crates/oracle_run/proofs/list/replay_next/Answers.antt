use Rattle.std.proofs.Common.{refl, rules}
use Rattle.oracle_run.proofs.list.replay_next.Goals as goal

pub returns-in-Some : goal.returns-in-Some
returns-in-Some g c = (_, record { shown = c.in-Some.record; shows = refl; says = search rules })
